pub mod Completeness
pub mod Soundness
pub mod Depths
pub mod Stacks
pub mod Readers
pub mod Parsed
mod Alone
mod Definable
pub mod Gathered
pub mod Postfix
pub mod ValueStack
pub mod Judgements
pub mod ValuesLeft
pub mod Refs
mod Sums
pub mod Places
