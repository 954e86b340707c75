pub mod Parts
pub mod Whole
pub mod Faults
pub mod Laws
