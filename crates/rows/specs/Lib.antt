pub mod Fact
pub mod Table
pub mod Lines
pub mod Json
