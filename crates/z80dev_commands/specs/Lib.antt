pub mod Commands
pub mod Private
