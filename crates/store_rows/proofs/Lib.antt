pub mod Common
pub mod Listing
pub mod Keys
pub mod Setting
pub mod Changes
pub mod Fresh
pub mod Values
pub mod Reading
mod Examples
mod Decimals
mod LiveExamples
pub mod PutTogether
pub mod LiveRows
pub mod LastPlace
pub mod LiveChanges
pub mod SeatRows
pub mod LiveSet
pub mod NetIn
pub mod LiveMore
pub mod LivePut
pub mod LiveLast
pub mod LiveOut
pub mod LiveFollows
pub mod LiveNamed
pub mod NamedFollows
pub mod Frames
pub mod Made
pub mod First
pub mod OneMessage
pub mod PartShown
