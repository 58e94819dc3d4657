pub mod Merged
pub mod Pieces
pub mod Place
