mod Labels
mod Spots
mod Faultless
mod Chain
mod Starts
mod FineLines
mod Accepted
mod TextSizes
mod LineCounts
mod Fitting
mod InRange
pub mod Each
pub mod Decimals
pub mod Lexemes
pub mod Names
pub mod Rows
pub mod Pieces
pub mod Reading
pub mod Texts
pub mod SampleFinish
pub mod SampleMaking
