pub mod Texts
pub mod Branches
pub mod Books
pub mod Strays
