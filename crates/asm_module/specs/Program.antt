pub mod Statement
pub mod Pieces
pub mod Linked
pub mod Spelled
pub mod Lines
pub mod Described
