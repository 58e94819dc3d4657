pub mod Decided
pub mod Desired
pub mod Draft
pub mod Drawn
pub mod Left
pub mod Plan
pub mod Sorted
pub mod Inner
