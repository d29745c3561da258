mod BothWays
mod Ending
mod Steps
mod Addresses
pub mod Still
mod Coming
pub mod Showing
mod Stops
mod Refusals
