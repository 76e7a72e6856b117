pub mod Words
pub mod Number
pub mod Spelling
pub mod Cutting
pub mod Reading
pub mod Fault
pub mod Printing
