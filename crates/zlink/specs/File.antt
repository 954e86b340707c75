pub mod Reads
pub mod Objects
pub mod Places
