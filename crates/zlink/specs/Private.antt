-- Only private contracts cite these definitions, so a reviewer may skip them.
pub mod Joining
pub mod Pieces
pub mod Refs
pub mod Marked
pub mod Assembling
