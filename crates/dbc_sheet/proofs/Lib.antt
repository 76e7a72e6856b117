pub mod Common
mod SameMessages
pub mod Multiplexors
mod Clearness
mod MessageRules
mod SheetRows
mod KeptRows
mod ChangeRows
pub mod Found
mod Namesakes
