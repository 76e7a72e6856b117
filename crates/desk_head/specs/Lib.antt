pub mod Limits
pub mod Head
pub mod HeadState
pub mod Fields
pub mod Target
pub mod Demand
pub mod Asked
