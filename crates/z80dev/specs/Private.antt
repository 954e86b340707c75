-- Only private contracts cite these definitions, so a reviewer may skip them.
pub mod Steps
pub mod DiskSteps
pub mod Images
pub mod Names
pub mod FileSteps
