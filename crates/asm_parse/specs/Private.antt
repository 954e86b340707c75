-- Private contracts use these definitions, and so does Parsed. A reviewer may skip them: `laws::parsed` says that what Parsed finds is
-- what IsParsed means.
pub mod Parsing
pub mod Stacks
pub mod Readers
pub mod Named
pub mod Steps
pub mod Sums
