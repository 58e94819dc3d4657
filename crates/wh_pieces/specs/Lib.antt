pub mod Row
pub mod Flat
pub mod Place
pub mod Pieces
pub mod Lent
pub mod Merged
pub mod Inner
