pub mod Common
pub mod Alike
pub mod Quiet
pub mod Unmarked
pub mod Frames
pub mod Positions
pub mod Seen
pub mod Signed
pub mod Sizes
pub mod SeenOnly
mod Rows
