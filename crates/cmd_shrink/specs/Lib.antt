pub mod Shrinks
pub mod Completes
