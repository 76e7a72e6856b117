pub mod Common
pub mod IteratorItems
pub mod LookingUp
pub mod Ordered
mod OrderedRows
pub mod Fed
pub mod Positions
pub mod SignalIndices
mod AttachingRows
pub mod Building
pub mod Gathering
pub mod OneByOne
pub mod Settled
pub mod Refused
pub mod Bytes
pub mod SheetsFit
pub mod Putting
pub mod WholeParts
pub mod DistinctNames
pub mod FirstRefused
pub mod Multiplexors
pub mod EntryLimits
pub mod Faultless
pub mod FaultsAt
pub mod SheetsStated
pub mod FaultsRefuse
pub mod DefinitionsAlone
pub mod Divided
pub mod Apart
pub mod Cleared
pub mod TokenFaults
pub mod ReadFaults
mod GatheringRows
mod ReadingRows
mod LateRows
mod SettlingRows
mod DefinitionRows
