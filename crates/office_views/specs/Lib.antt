pub mod Text
pub mod Held
pub mod Message
pub mod Table
pub mod Word
pub mod NetList
pub mod Sending
pub mod Tally
