pub mod Claims
pub mod Orders
pub mod Works
