pub mod Addresses
pub mod Instructions
pub mod Text
pub mod Session
pub mod Conversation
pub mod Private
