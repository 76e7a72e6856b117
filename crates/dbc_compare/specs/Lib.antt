pub mod Value
pub mod Fields
pub mod Differences
pub mod List
pub mod Laws
