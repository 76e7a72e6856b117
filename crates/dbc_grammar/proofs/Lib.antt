pub mod Common
mod CanonRows
pub mod AscendingUnique
pub mod OneSheet
pub mod EachStated
pub mod SignalKeys
mod SayingExamples
pub mod SheetStated
mod TokenRuns
pub mod TokenBytes
pub mod TokenNumbers
pub mod TokenTexts
pub mod TokenWords
pub mod TokensOnce
mod TokenReading
pub mod TokenExact
mod TokenSlices
mod TokenExamples
mod FileTokens
pub mod TokenSteps
pub mod Exactness
pub mod Repeating
pub mod ExactFields
pub mod ExactLines
pub mod ExactStatements
pub mod Divisions
pub mod Identifiers
pub mod DecimalNumbers
mod StatementExamples
pub mod OneReading
