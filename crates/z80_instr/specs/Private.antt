-- Definitions that only private contracts use, so no public promise depends on them.
pub mod Writes
