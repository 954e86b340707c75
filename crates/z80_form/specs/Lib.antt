pub mod Words
pub mod Named
pub mod Types
pub mod Rows
pub mod Numbers
pub mod Spelling
pub mod Private
