pub mod Nesting
pub mod Ends
pub mod Openings
pub mod Varying
pub mod Pairs
pub mod Chosen
