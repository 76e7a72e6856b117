pub mod Common
pub mod Spelled
pub mod FirstToken
pub mod LoopRounds
pub mod NameLists
pub mod Marked
pub mod Skip
pub mod Offsets
pub mod WholeText
pub mod OneStatement
mod LeftRows
mod ReadingRows
