pub mod Passages
pub mod Kept
pub mod Law
pub mod Found
pub mod Staying
