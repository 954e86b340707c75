pub mod Typed
pub mod Help
pub mod Private
