pub mod Kept
pub mod Refused
pub mod Steps
pub mod Reasons
pub mod Agreeing
pub mod Standing
