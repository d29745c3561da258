pub mod Kept
pub mod Comparing
