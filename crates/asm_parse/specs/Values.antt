pub mod Postfix
pub mod Arithmetic
pub mod Kept
pub mod Items
pub mod Distances
