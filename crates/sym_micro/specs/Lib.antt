pub mod Machine
pub mod Alike
pub mod Stands
pub mod Exits
