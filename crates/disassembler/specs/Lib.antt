pub mod Faults
pub mod Entries
pub mod Labels
pub mod Reading
pub mod Disassembly
pub mod Private
