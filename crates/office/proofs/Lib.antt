pub mod Common
mod AppliedToOffice
mod InPlace
mod Runs
mod PutThere
mod Indexes
mod Looked
mod Changed
mod CarriedThere
pub mod Kept
pub mod Ran
mod Examples
