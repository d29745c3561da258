pub mod Cells
pub mod Placed
pub mod Rows
pub mod LawfulShapes
pub mod ByteMemory
pub mod Pages
pub mod Tried
pub mod Lines
pub mod Within
pub mod Turns
pub mod Called
mod Sight
