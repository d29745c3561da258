pub mod Records
pub mod Lines
pub mod HexFile
pub mod Written
