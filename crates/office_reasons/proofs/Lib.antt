pub mod Texts
pub mod FewTexts
mod Rows
