pub mod Claimed
pub mod Debugged
pub mod Given
pub mod Ran
pub mod Seated
pub mod Told
