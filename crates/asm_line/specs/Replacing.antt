pub mod Pieces
pub mod Replaced
pub mod Arguments
pub mod Fronts
pub mod Views
