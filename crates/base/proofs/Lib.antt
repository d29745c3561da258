pub mod Bytes
pub mod Cuts
pub mod Holding
pub mod Fronts
pub mod Pieces
pub mod Addressed
