pub mod Common
pub mod Kept
pub mod OneByOne
mod ReplyExamples
pub mod ReceiverRows
pub mod KeptParts
mod TeamKeys
mod ReplyNumbers
mod SignalPlaces
mod SetSignals
