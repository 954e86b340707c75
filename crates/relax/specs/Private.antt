-- Only private contracts cite these definitions, so a reviewer may skip them.
pub mod Spans
pub mod Judges
pub mod Worklist
