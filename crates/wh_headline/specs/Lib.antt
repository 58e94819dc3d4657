pub mod Alike
pub mod Growing
pub mod OneLog
pub mod RunningNights
pub mod Told
pub mod WithReaders
