pub mod Reports
pub mod Fronts
pub mod Explained
pub mod Explanation
