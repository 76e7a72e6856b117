pub mod Full
mod Rows
pub mod Inside
