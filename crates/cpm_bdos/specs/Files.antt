pub mod Opening
pub mod Searching
pub mod Changes
