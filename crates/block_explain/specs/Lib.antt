pub mod Names
pub mod Words
pub mod Moves
pub mod Smallest
pub mod Apart
pub mod Pairs
pub mod Explained
