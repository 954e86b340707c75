pub mod Going_on
pub mod Laid_end_to_end
pub mod Names
pub mod Sound
