-- Only private contracts cite these definitions, so a reviewer may skip them.
pub mod Flat
pub mod Near
pub mod Known
