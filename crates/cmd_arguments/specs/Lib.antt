pub mod Table
pub mod Items
pub mod Values
pub mod Given
pub mod Read
pub mod Words
pub mod ReadCommands
pub mod Asked
