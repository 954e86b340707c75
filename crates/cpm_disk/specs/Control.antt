pub mod Bytes
pub mod Fcbs
pub mod Files
pub mod Stops
pub mod Words
