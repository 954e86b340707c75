pub mod Blocks
pub mod Views
