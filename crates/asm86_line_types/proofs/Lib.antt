pub mod Sorting
pub mod Labels
pub mod Same
pub mod Sizes
pub mod Statements
pub mod WrittenLines
