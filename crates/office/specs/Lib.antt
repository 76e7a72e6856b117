pub mod OfficeApplied
pub mod Indexed
pub mod Keyed
pub mod Running
