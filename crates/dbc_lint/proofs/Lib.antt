pub mod Common
pub mod EachSignal
pub mod LongMessages
pub mod LongNumbers
pub mod NumberSets
pub mod FirstSpns
pub mod UsedNames
pub mod Rows
