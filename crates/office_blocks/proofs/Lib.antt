pub mod Common
pub mod Counting
pub mod Gaps
pub mod Parts
pub mod Remaining
pub mod Same
pub mod Next
pub mod Wanted
mod BlockRows
