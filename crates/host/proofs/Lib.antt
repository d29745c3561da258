pub mod HostLemmas
pub mod Counting
pub mod Listed
pub mod MemCalls
pub mod MemTells
