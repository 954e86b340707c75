mod Fields
pub mod Definable
pub mod Fits
pub mod Seen
pub mod Values
pub mod Stated
pub mod Listed
pub mod Headed
pub mod Whole
