pub mod Written
pub mod Layout
pub mod Order
pub mod Image
pub mod Cells
