pub mod PartWritten
pub mod Carried
pub mod Defined
mod Given
mod MemoryStored
mod Newest
pub mod One_by_one
mod Parts
pub mod Stored
mod Told
