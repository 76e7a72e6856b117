pub mod Schema
pub mod Tables
pub mod Statements
pub mod Selected
pub mod Comparing
pub mod Creating
pub mod Frames
