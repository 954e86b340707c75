pub mod Items
pub mod Many
pub mod Taken
pub mod Spelled
