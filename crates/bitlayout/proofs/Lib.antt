pub mod Common
pub mod Adding
pub mod Clearance
pub mod Collisions
pub mod Covering
pub mod Faults
pub mod Masks
pub mod Naming
pub mod Presence
mod Rows
pub mod Search
pub mod Starts
pub mod Turns
pub mod Walks
pub mod Weights
