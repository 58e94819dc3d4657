pub mod Cut
pub mod Part
pub mod Pieces
pub mod TableText
pub mod TableWritten
pub mod Unread
