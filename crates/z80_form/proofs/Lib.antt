mod Words
mod Finite
mod Rows
mod Texts
mod Numbers
mod Kept
mod Spelled
mod Places
mod Ranges
pub mod Refused
