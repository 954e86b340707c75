-- Only private contracts cite these definitions, so a reviewer may skip them.
pub mod Runs
pub mod Adding
pub mod Telling
pub mod Gathered
