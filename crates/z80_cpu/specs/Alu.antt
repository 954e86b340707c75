pub mod Flags
pub mod Bytes
pub mod Words
pub mod Rotations
