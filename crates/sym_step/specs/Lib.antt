pub mod Ways
pub mod Arithmetic
