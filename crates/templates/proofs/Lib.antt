mod Numbering
pub mod NumberedLines
mod OneText
mod Trims
mod Laid
mod Joined
mod Growing
mod Reaching
pub mod Pairs
