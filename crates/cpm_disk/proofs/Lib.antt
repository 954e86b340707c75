pub mod Entries
mod HighBits
pub mod Kept
mod Near
mod Placements
mod RecordPlaces
pub mod Results
mod Sound
pub mod Worth
pub mod Attributes
mod Blocks
mod Changes
mod Chunks
mod EntryList
mod Files
pub mod Maps
mod Marking
mod Numbers
mod Others
mod Outcomes
pub mod Places
mod Refusals
mod Remembered
mod StillMounted
mod Stopped
mod Written
pub mod Putting
