-- How a debugger and a trace show numbers, registers and memory.
pub mod Columns
pub mod Memory
pub mod Instructions
pub mod Fields
pub mod Registers
