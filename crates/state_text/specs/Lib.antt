pub mod Printing
pub mod RegisterNames
pub mod Labelled
pub mod Private
