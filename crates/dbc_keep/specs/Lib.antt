pub mod Places
pub mod Finding
pub mod Parts
pub mod Keeping
pub mod Staying
pub mod J1939
pub mod LeftOut
pub mod Completed
