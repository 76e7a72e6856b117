pub mod Common
pub mod Members
pub mod ValueTests
pub mod ChangeLists
pub mod FieldsTold
pub mod ThingLists
pub mod PartnersBack
pub mod MessageLists
pub mod ToldSheets
pub mod SwappedSheets
pub mod NoDifference
pub mod MessageWalk
mod Rows
