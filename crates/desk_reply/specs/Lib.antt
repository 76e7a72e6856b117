pub mod Reply
pub mod Response
