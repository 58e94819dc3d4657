pub mod Claims
pub mod Works
pub mod Inner
