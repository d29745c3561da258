pub mod Laws
pub mod Linked
pub mod Replayed
pub mod Environments
pub mod Matching
pub mod Linking
