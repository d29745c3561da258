pub mod Blocks
pub mod Names
pub mod Cutting
pub mod Reasons
