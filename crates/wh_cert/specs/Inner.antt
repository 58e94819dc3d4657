pub mod Bound
pub mod Descent
pub mod Followed
pub mod Preorder
