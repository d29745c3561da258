pub mod Place
pub mod Stream
pub mod Reader
pub mod Back
pub mod Places
pub mod Refusals
pub mod Images
