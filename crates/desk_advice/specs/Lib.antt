pub mod Front
pub mod Line
