pub mod Laid
pub mod Sizes
