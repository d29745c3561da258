pub mod Bits
pub mod Parts
pub mod Conditions
pub mod Places
