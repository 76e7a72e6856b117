pub mod Devices
pub mod LocalPort
pub mod Noted
pub mod Ports
pub mod Responding
pub mod Serving
pub mod Visits
mod Examples
pub mod MemoryListener
