pub mod Parts
pub mod Findings
