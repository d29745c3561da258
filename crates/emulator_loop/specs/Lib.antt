pub mod Lines
pub mod Talk
pub mod Turns
pub mod Advance
