pub mod Meeting
pub mod Rows
pub mod Exits
pub mod Plain
pub mod Own
