pub mod Call
pub mod Read
pub mod Asked
pub mod Body
pub mod Bundle
