pub mod Going
mod Turning
mod AsRun
mod AsSession
mod Held
pub mod OneState
pub mod OneStop
mod Cutting
mod Leftovers
pub mod OneRecord
mod Order
mod Recordings
