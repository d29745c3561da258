mod Capitals
mod Checked
mod Cut
mod Each
mod Given
mod Labels
pub mod Lines
mod Listed
mod Numerals
mod Parts
mod Pieces
pub mod ReadBack
mod WrittenWords
