pub mod Each
pub mod Laying
pub mod Coding
pub mod Fields
pub mod Passing
pub mod Making
pub mod Sizes
pub mod Likes
mod Unsized
mod ByNames
