pub mod Read
pub mod Source
