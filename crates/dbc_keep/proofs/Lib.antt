pub mod Common
pub mod Absent
mod Appended
mod Ending
mod Slices
mod Saying
mod Lines
mod Whole
mod WordsRead
mod StayingTexts
mod Counted
