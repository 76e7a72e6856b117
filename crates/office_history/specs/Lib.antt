pub mod Key
pub mod History
pub mod Answering
pub mod Laws
