pub mod Statement
pub mod Parts
pub mod Tokens
pub mod Names
pub mod Reading
pub mod Skipping
pub mod Division
pub mod Left
