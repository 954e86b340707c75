mod Pieces
mod Lists
mod Read
mod Entries
mod Written
mod Unworded
mod Walk
mod Numbered
mod Named
mod Few
mod Cuts
mod Looked
pub mod WrongWays
