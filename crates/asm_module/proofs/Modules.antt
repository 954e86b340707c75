pub mod Missing_names
pub mod In_order
pub mod Found
pub mod Alike
