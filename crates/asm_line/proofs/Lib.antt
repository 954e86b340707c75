pub mod Values
pub mod Strings
pub mod Fronts
pub mod Cuts
mod NameLists
mod Rests
pub mod Replaced
