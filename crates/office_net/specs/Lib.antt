pub mod Granting
pub mod FactsOf
