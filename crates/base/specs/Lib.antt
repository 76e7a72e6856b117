pub mod Ascending
pub mod Bytes
pub mod Keyed
pub mod Refusing
pub mod Retain
pub mod Split
pub mod WholeNumber
