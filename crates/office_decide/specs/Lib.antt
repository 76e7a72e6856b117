pub mod Bundled
pub mod Imported
