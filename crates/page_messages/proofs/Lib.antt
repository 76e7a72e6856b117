pub mod Common
mod Adding
mod Alike
mod Cards
mod CellsDrawn
mod Choosing
mod Counting
mod Drawn
mod Holders
mod Listed
mod Places
mod RowsDrawn
mod Runs
mod UsedRows
mod Values
