pub mod Added
pub mod BodySizes
pub mod Fronts
pub mod Leading
pub mod Matching
pub mod Parameters
pub mod Rows
pub mod TargetParts
