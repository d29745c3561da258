pub mod Validation
pub mod Names
