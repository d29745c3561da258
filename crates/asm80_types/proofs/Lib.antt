pub mod Lookup
pub mod CellSearch
pub mod Marks
pub mod Standing
pub mod Listed
