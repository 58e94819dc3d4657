pub mod Said
pub mod Dialogue
pub mod Inner
