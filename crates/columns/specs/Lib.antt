pub mod Padding
pub mod Word
pub mod Run
pub mod IdentColumns
