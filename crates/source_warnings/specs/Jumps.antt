pub mod Distances
pub mod Laws
pub mod Offsets
pub mod Parts
pub mod Warnings
