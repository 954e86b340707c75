pub mod Speaking
pub mod Same
pub mod Stopped
pub mod OneDisk
pub mod OneScreen
pub mod OneFile
pub mod OneCall
