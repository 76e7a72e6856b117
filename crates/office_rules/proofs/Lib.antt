pub mod Common
pub mod TeamCommand
mod Rows
mod FileRows
pub mod ProfileRows
pub mod Idents
pub mod Widened
pub mod Runs
