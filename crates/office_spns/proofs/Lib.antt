pub mod OfNumber
pub mod SpnPlaces
pub mod LastPlaces
mod SpnRows
