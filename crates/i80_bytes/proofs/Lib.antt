pub mod Tables
pub mod Readers
mod Encodings
mod Lookup
pub mod CellBytes
mod Small
mod Following
mod Ascending
mod Fetched
mod Written
mod Texts
