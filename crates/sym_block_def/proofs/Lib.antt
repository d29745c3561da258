pub mod Sorts80
pub mod Sorts86
pub mod SortsWalk
pub mod Instructions
pub mod Exits
