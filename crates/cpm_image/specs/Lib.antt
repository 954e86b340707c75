pub mod Kind
pub mod Failing
pub mod Device
pub mod Skew
pub mod Image
pub mod Directory
pub mod Private
