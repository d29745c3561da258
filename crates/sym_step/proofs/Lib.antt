pub mod Seen86
pub mod Seen80
pub mod Blocks
pub mod Where
pub mod Arithmetic
