pub mod Console
pub mod Files
pub mod Records
pub mod Functions
pub mod Settings
pub mod System
pub mod Answer
pub mod Alike
