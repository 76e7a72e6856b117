pub mod Kind
pub mod Value
pub mod Field
pub mod Given
pub mod Requested
pub mod Reading
