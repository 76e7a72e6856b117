pub mod Added
pub mod Reordered
pub mod Used
