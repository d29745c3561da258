pub mod Turning
pub mod OneRun
pub mod Said
pub mod Advances
pub mod Exact
pub mod Ends
