pub mod Common
pub mod Writes
pub mod Performed
pub mod WrongWords
pub mod FileJobs
pub mod StatedMore
pub mod ReasonLines
pub mod StillOffice
pub mod Told
mod Stopping
mod KeptTexts
mod CompletedTexts
pub mod Canonical
pub mod Reported
pub mod CanAnswer
pub mod LongestLines
pub mod Opened
pub mod Applied
pub mod LookRows
pub mod Requesting
pub mod Unprinted
pub mod Sent
