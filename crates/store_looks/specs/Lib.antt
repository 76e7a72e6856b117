pub mod Asked
pub mod Seen
pub mod Kept
pub mod Read
