pub mod Blocks
pub mod Books
pub mod Sections
pub mod Onward
pub mod Views
