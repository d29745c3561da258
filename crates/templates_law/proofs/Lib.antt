mod Text
mod Match
pub mod Beginning
mod Styles
mod Matching
pub mod OneText
