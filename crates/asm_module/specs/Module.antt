pub mod Faults
pub mod Statements
pub mod Stated
pub mod Judged
