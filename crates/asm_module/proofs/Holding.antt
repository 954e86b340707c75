pub mod Collected
pub mod Keeping
pub mod Within
