pub mod Fairness
pub mod Placing
pub mod Lowest
