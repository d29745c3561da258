mod Frames
pub mod Cells
mod Numbers
mod Walking
pub mod Found
mod One
pub mod Matching
