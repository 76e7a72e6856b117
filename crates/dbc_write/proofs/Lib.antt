pub mod Common
pub mod Adds
pub mod Spns
