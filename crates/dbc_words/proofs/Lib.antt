pub mod Common
pub mod Texts
mod KeywordEndings
pub mod NameSets
pub mod Rosters
pub mod Gathering
pub mod Naming
pub mod NamedThings
mod NameRows
mod KeptRows
mod WordRows
