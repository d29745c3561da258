pub mod ShowLaws
pub mod Laws
pub mod Stopping
pub mod HexLaws
