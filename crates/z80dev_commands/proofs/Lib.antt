pub mod Builders
pub mod Ends
pub mod Rows
pub mod Values
