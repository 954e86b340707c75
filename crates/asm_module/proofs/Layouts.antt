pub mod Few
pub mod Laying_down
pub mod SameKinds
pub mod Within
pub mod Sound
pub mod Sizing
pub mod Values
pub mod Laying
mod Example
