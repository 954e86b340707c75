mod Running
pub mod One_word
pub mod Refused
pub mod Reported
