pub mod CommandFile
pub mod Written
pub mod Loaded
pub mod Header
pub mod Reading
pub mod Laws
