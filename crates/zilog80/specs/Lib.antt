pub mod Operands
pub mod Table
pub mod Words
pub mod Zilog
pub mod Read
