pub mod Adding
pub mod Given
pub mod Sorted
