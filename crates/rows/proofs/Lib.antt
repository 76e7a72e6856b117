pub mod Common
pub mod Pushing
pub mod Depth
mod Shown
