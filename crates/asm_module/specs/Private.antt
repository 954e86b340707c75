-- Only private contracts cite these definitions, so a reviewer may skip them.
pub mod Missing
pub mod Sound
pub mod Statements
pub mod Reading
pub mod Steps
