pub mod Common
pub mod Each
pub mod Refused
pub mod Imported
pub mod NameSets
pub mod Sides
pub mod Rostered
pub mod Counted
