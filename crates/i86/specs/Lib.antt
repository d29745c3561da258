pub mod Enc86
pub mod Code
pub mod Decode
pub mod Decoder
