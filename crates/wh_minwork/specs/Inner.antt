pub mod Desired
pub mod Draft
pub mod Left
pub mod Nodes
pub mod Sets
pub mod Sorting
