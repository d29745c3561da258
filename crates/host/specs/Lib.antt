pub mod Host
pub mod MemHost
pub mod RealHost
