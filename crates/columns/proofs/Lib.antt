pub mod Pieces
pub mod Joining
