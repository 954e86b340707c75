pub mod Below
mod Lacking
pub mod Opened
pub mod Knowing
pub mod Entries
pub mod Known
pub mod Fixed
pub mod Constants
pub mod Folds
pub mod Guards
pub mod Spread
pub mod Steps
pub mod Sizes
pub mod Answers
mod OneTerm
pub mod Heads
pub mod Offsets
pub mod Equates
pub mod Origins
pub mod Alike
pub mod Anywhere
pub mod ByNames
pub mod Worths
pub mod Again
pub mod Valued
