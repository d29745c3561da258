pub mod Agreement
pub mod BothMade
pub mod BothCompleting
mod TextLoading
mod Laws86
pub mod Leaving
pub mod Laws80
pub mod Kept
pub mod Naming
pub mod Told
pub mod Loading
pub mod FilesRead
pub mod Disks
mod Settings
pub mod Working
pub mod Equipped
pub mod OneRun
pub mod Completing
pub mod OneOutcome
mod LawsHex
