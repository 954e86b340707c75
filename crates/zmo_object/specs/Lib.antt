pub mod Holes
pub mod Modules
pub mod Rules
pub mod Fields
pub mod Codes
pub mod Texts
pub mod Reading
pub mod Private
