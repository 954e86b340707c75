mod Orders
pub mod TakenUp
mod Few
mod Distinct
pub mod Given
mod Below
mod Uses
mod Rounds
mod Placing
mod Turning
pub mod Refs
mod Valued
mod ByLines
