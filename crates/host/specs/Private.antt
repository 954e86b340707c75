-- Only private contracts cite these definitions, so a reviewer may skip them.
pub mod StreamSteps
pub mod Kept
pub mod Steps
