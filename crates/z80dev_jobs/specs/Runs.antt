pub mod Debugging
pub mod Input
pub mod Playing
pub mod Running
pub mod Telling
