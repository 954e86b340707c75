-- Only private contracts use these definitions. A reviewer may skip them.
pub mod State
