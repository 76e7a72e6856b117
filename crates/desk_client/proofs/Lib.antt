pub mod Requests
pub mod Receiving
pub mod Heads
pub mod Rows
pub mod ReplyTexts
pub mod RepliesBack
pub mod Targets
