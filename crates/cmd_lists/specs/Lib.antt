pub mod Lists
pub mod Saves
pub mod Departures
