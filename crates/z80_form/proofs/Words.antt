pub mod Finite
pub mod Lookup
