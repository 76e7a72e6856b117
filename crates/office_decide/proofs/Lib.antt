pub mod Common
mod BundleDecided
pub mod ByFacts
mod Decisions
