pub mod Deciding
pub mod Least
mod NumberSets
mod Owning
pub mod Refusing
pub mod Searched
