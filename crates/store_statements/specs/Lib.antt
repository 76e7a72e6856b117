pub mod Mux
pub mod Rows
pub mod Shown
pub mod Alone
