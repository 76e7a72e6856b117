pub mod Words
pub mod Cause
pub mod Phrase
pub mod Sentence
pub mod Explained
