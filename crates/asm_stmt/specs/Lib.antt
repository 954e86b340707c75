pub mod Fields
pub mod Cells
pub mod Made
pub mod Sized
pub mod Private
