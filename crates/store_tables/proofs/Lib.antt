pub mod Common
pub mod Numbering
pub mod Inserting
pub mod Deleting
pub mod Selecting
pub mod Keeping
pub mod Columns
pub mod Current
pub mod Changing
pub mod Finding
pub mod TableIndices
pub mod OneSchema
pub mod Making
mod Examples
mod EveryTable
mod Firsts
pub mod TopRow
pub mod Counting
pub mod Growing
