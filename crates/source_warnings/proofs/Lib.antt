pub mod Distances
pub mod Nearest
pub mod One_more
mod Agreeing
mod Called
mod Lined
mod Printed
mod Steps
