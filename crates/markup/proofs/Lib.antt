pub mod Texts
pub mod Tags
pub mod Opening
pub mod Ascii
pub mod Changes
mod Rows
