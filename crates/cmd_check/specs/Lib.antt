pub mod Checks
pub mod Loading
pub mod Completes
pub mod OwnTexts
pub mod Laws
