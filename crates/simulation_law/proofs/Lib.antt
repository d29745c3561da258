mod FollowBlocks
mod Opening
mod Memory
pub mod Following
mod Examples
mod Choosing
mod Same
mod Agreeing
mod Replaying
mod Reasons
mod WaysAgree
mod Meeting
mod Exits
pub mod Running
mod Writes
pub mod Asking
pub mod Pushing
pub mod Replying
pub mod Standing
pub mod Going
mod System
mod Ways
pub mod Linked
