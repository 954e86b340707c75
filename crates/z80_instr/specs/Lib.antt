pub mod Types
pub mod Table
pub mod Codes
pub mod Private
