pub mod Groups
pub mod Commented
pub mod Reading
pub mod Lines
pub mod Sizes
pub mod Left
