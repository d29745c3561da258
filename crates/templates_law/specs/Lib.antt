pub mod Text
pub mod Match
pub mod Laws
pub mod Names
