pub mod Writes
pub mod Overlay
pub mod Calls
pub mod Steps
pub mod Replies
