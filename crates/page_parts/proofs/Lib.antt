pub mod Found
pub mod Classes
pub mod Lettering
pub mod Once
pub mod Hexadecimal
