pub mod Answers
pub mod Asm
pub mod Link
pub mod Products
pub mod Jumps
pub mod Build
pub mod Warned
pub mod Private
