-- Definitions that only private contracts use, so no public promise depends on them.
pub mod Blocks
pub mod Changes
pub mod Reading
pub mod State
