mod Rows
mod TableRows
mod NetRows
pub mod Holding
pub mod Tallies
