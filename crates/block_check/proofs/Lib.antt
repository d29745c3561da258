mod Found
pub mod Needed
pub mod Verdicts
