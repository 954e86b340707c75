mod Nested
mod Cut
pub mod Linked
pub mod Walked
