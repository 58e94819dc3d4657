pub mod Rows
pub mod Tables
pub mod Pages
pub mod Laws
pub mod Inner
