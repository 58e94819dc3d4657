pub mod Standing
pub mod Told
pub mod Pages
pub mod Lives
pub mod Inner
