pub mod Laws
pub mod Written
pub mod Sample
pub mod SampleReport
pub mod SampleWork
pub mod Samples
