pub mod Extends
pub mod Fills
pub mod Waits
pub mod Gives
pub mod ReadFaults
