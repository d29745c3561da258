mod WholeReading
mod Ends
mod Weaving
mod Rising
mod Inserting
mod Reading
mod Source
pub mod Texts
mod FirstLine
mod SourceLines
mod Left
mod Cutting
mod Whole
