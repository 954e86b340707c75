-- Only private contracts use these definitions. A reviewer may skip them.
pub mod Standing
pub mod Steps
pub mod Bounds
pub mod Judged
pub mod Placed
pub mod Turned
