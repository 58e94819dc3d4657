pub mod Events
pub mod ReplyText
