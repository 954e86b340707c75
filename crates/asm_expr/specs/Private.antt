-- Only private contracts use these definitions. A reviewer may skip them.
pub mod Folding
pub mod Left
pub mod Entries
pub mod Answers
pub mod Heads
pub mod Cells
