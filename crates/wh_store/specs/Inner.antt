pub mod Kept
pub mod Pages
pub mod Windows
pub mod Codes
pub mod Slots
pub mod Depths
