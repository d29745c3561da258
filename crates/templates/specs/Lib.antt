pub mod Template
pub mod Plain
pub mod Style
pub mod Lean
pub mod Places
pub mod Jumps
pub mod Translation
