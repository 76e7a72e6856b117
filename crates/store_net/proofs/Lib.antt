pub mod Common
pub mod First
pub mod Whole
pub mod LiveSheet
pub mod Released
pub mod LastRelease
pub mod Names
mod TextExamples
pub mod Excerpts
pub mod EachMessage
pub mod Between
pub mod HeadsShown
pub mod Inside
pub mod NumberExcerpts
mod NumberExamples
pub mod Bare
mod FewRows
