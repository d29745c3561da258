pub mod Sorted
pub mod Ready
pub mod OneByOne
pub mod Found
pub mod Alike
