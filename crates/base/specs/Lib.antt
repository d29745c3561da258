pub mod Arithmetic
pub mod Operations
pub mod Prefixes
pub mod Addresses
pub mod Addressed
pub mod Cut
pub mod Held
