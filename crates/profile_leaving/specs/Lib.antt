pub mod Leaving
pub mod Left
