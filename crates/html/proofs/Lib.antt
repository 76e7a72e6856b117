pub mod Pushing
pub mod Steps
pub mod ReadBack
pub mod Utf8
pub mod Plain
mod Rows
