mod Prefixes
mod Stories
mod Adding
mod Keeps
mod Waiting
mod Growing
pub mod Answering
pub mod Turns
pub mod Telling
