pub mod Distances
pub mod Laws
pub mod Programs
pub mod Reasons
pub mod Texts
