pub mod Branching
pub mod Fault
pub mod Opening
pub mod Plan
pub mod Spent
pub mod Inner
