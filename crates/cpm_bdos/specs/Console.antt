pub mod Raw
pub mod Texts
pub mod Lines
