pub mod Common
pub mod AllCarried
mod NetsCarried
mod LiveAdded
pub mod Grown
pub mod Formed
pub mod ReadProfile
mod Examples
