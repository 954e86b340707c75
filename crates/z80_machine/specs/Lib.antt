pub mod Types
pub mod Turn
pub mod Run
pub mod Private
