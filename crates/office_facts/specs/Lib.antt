pub mod Scope
pub mod FactsOf
pub mod By
pub mod Excerpt
