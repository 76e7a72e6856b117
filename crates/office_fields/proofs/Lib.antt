pub mod CommandWords
pub mod GivenNames
pub mod OfKind
pub mod Paths
pub mod Readings
mod Rows
