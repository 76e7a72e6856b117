pub mod Codes
pub mod Counts
pub mod Moved
pub mod Reading
pub mod Problem
