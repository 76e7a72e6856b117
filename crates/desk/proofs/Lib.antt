pub mod Common
pub mod Devices
pub mod Responses
pub mod Visits
pub mod Noted
pub mod Turns
