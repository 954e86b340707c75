mod Leading
pub mod Frames
pub mod Opened
mod Followed
pub mod Visits
pub mod Keeping
pub mod Drained
pub mod Closed
pub mod Ordered
