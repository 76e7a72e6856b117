pub mod Reader
pub mod Html
pub mod Writing
