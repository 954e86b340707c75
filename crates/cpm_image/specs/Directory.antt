pub mod Entries
pub mod Letters
pub mod Rules
pub mod Searches
pub mod Types
