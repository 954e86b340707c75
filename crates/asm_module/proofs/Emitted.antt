pub mod Settled_twice
pub mod No_fault
