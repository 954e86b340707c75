mod Layouts
mod Modules
pub mod Program
mod Rules
mod Emitted
mod Reading_lines
mod Holding
mod Once
mod Answered
mod Passed
mod Whole
mod Held
mod Kept
