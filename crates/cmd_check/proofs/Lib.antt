pub mod Files
pub mod Loading
pub mod Completing
mod OwnTexts
