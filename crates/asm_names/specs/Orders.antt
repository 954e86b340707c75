pub mod Circles
pub mod Order
