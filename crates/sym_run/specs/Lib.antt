pub mod Around
pub mod Ends
pub mod Places
pub mod Outcomes
pub mod Seen
pub mod Five
pub mod Stop
