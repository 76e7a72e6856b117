pub mod Decoding
pub mod Laws
pub mod Marks
