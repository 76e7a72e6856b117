pub mod Blocks
pub mod Numbers
