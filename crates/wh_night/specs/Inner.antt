pub mod RefusedWaves
pub mod Underway
pub mod Serving
