mod OneMove
pub mod Talking
mod Listed
