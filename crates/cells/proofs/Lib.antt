mod KeepBits
pub mod SamePlace
pub mod Options
pub mod Unions
