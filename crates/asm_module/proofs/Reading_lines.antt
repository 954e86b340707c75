mod Ends
pub mod Kept
pub mod Taking
mod Texts
