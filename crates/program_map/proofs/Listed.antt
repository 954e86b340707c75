pub mod ByLine
pub mod ByName
pub mod Digits
mod Order
pub mod Parted
pub mod Whole
