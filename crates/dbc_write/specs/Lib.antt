pub mod Adding
pub mod Sections
pub mod Parts
