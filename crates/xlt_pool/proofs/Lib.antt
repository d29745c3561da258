pub mod Places
pub mod Nodes
pub mod Slots
pub mod Tables
