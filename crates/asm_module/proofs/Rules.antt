pub mod Pieces
mod Listed
pub mod Statements
pub mod Named
