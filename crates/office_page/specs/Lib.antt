pub mod Names
pub mod Checking
pub mod Parts
pub mod Page
