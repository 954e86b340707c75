pub mod Coming
pub mod Walk
pub mod Calls
pub mod Stops
pub mod Going
pub mod Alike
pub mod Recorded
pub mod Private
