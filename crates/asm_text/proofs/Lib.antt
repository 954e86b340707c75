mod Nesting
mod Line_ends
pub mod Macros
mod Openings
mod Unvaried
mod Words
mod Pairs
mod Passed
mod Signless
mod Put_plain
mod First_tokens
pub mod Sections
