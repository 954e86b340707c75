pub mod Runs
pub mod Private
pub mod Command
pub mod Explaining
pub mod Values
pub mod Words
