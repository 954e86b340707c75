mod Answered
mod Causes
pub mod Certain
pub mod Ends
mod Faults
mod Grown
mod Reach
pub mod Reported
mod Sources
pub mod Standing
mod Statements
pub mod TextSoFar
mod Total
pub mod Turning
pub mod Witness
pub mod Clear
pub mod Disassembled
pub mod Images
pub mod Last_point
pub mod Lined
pub mod Overwritten
