pub mod Fitting
pub mod Piece
pub mod Object
