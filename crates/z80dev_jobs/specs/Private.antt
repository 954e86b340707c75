-- Only private contracts cite these definitions, so a reviewer may skip them.
pub mod Debugging
pub mod Images
pub mod RunSteps
pub mod Telling
pub mod Steps
