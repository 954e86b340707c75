pub mod Listing
pub mod Printed
pub mod Symbols
