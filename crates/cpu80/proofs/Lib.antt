mod Asking
mod Starts
mod Replying
mod Stands
mod MovesStand
mod Sums
mod Rows
mod Calls
mod Steps
mod Running
pub mod Starting
mod Following
