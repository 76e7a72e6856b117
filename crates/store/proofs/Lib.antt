pub mod Common
pub mod OpenedTables
pub mod TablesInForm
pub mod Same
pub mod Statistics
mod Remembered
pub mod OneArrival
pub mod AfterCrash
pub mod ListOfArrivals
pub mod ClearNetworks
mod Examples
pub mod DecidedOnPart
pub mod CountedReleases
pub mod OpenedSo
mod OtherTables
