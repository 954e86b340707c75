mod Values
pub mod Fillings
pub mod Holes
mod Data
pub mod Rows
pub mod Fields
pub mod Numbers
pub mod Coding
pub mod Holding
pub mod Growing
mod Example
pub mod Placing
pub mod Levels
