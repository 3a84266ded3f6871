pub mod Whole
pub mod Steps
pub mod Pieces
