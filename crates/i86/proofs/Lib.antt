pub mod Tables
pub mod Operands
pub mod Readers
pub mod Prefixes
pub mod Same
