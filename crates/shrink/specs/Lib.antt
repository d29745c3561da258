pub mod Candidates
pub mod Shrunk
pub mod Apart
pub mod Written
pub mod Laws
