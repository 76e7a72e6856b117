pub mod View
pub mod Since
pub mod Granted
pub mod Owners
