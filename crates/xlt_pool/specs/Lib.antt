pub mod Contents
pub mod Table
pub mod Inside
