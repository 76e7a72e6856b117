pub mod Common
mod Seeing
mod Remembering
pub mod Asked
mod ReadWhole
mod RememberedRows
