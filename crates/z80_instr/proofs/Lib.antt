pub mod Finite
mod Lengths
