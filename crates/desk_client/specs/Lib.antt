pub mod Limits
pub mod Request
pub mod Received
pub mod Asking
pub mod Replies
