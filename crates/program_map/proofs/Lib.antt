mod Listed
pub mod Adding_up
pub mod All_sources
pub mod ByAddress
pub mod By_line
pub mod Counting
pub mod Figuring
pub mod Long_jumps
pub mod Order
pub mod Ordered
pub mod Parting
pub mod Placing
pub mod Summing
pub mod Told
pub mod Wholly
mod Reasoned
