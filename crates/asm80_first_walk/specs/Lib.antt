pub mod Entries
pub mod Scopes
pub mod Walked
pub mod State
pub mod Tables
