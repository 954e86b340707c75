-- Only private contracts cite these definitions, so a reviewer may skip them.
pub mod Reading
pub mod Following
