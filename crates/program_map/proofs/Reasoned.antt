mod Because
pub mod Described
mod Distance
mod Distinct
pub mod Explained
pub mod Members
pub mod Near
pub mod Sites
pub mod Suffices
