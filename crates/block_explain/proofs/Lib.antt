mod Digits
mod Heads
mod Smaller
mod Leaves
mod One
pub mod OneText
mod Blocks
