pub mod Common
pub mod Unread
pub mod Owning
pub mod LastOf
mod NetRows
mod MessageRows
mod WhoRows
mod NodesRows
mod FirstLine
mod Parts
mod Rows
