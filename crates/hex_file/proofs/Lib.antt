pub mod Cutting
pub mod RecordBytes
pub mod Running
pub mod Reading
pub mod OneReading
pub mod ReadBack
pub mod OneFile
pub mod Examples
