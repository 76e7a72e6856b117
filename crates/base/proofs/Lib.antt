pub mod PutCode
pub mod PutKeeps
mod Digits
pub mod AscendingLists
pub mod Refusals
pub mod WholeNumbers
pub mod Separators
mod KeptRows
