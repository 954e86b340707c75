pub mod Input
pub mod Events
pub mod Texts
pub mod Lines
