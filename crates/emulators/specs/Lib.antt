pub mod Courses
pub mod Starts
pub mod ByteCourses
