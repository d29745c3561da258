pub mod Forms
pub mod Settings
pub mod Instructions
pub mod Items
pub mod Programs
pub mod Second
