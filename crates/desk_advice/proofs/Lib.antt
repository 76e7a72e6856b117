pub mod FrontLemmas
pub mod Printable
