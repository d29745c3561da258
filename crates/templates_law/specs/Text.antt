pub mod Fits
pub mod Reach
pub mod Own
