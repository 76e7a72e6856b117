pub mod Writing
pub mod Kept
pub mod Places
