pub mod Places
pub mod Entries
pub mod Sequential
pub mod Random
pub mod Numbers
