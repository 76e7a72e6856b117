pub mod LineWords
pub mod GivenAfter
pub mod WordForms
pub mod WrongLaw
pub mod Ranges
mod Rows
