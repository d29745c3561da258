pub mod Agree
pub mod BlockMatch
pub mod Outcome
pub mod Block80
pub mod Symbolic86
pub mod Walk86
pub mod Stands
pub mod Sorts
