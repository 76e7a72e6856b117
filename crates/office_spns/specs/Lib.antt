pub mod Spns
pub mod SpnIndex
