pub mod Counting
pub mod Groups
mod ListRows
pub mod Packing
mod Rows
pub mod Splits
