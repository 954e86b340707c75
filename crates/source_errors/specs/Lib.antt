pub mod Findings
pub mod Counted
pub mod Judged
pub mod Found
pub mod Private
