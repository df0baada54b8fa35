-- Laws of courses.
pub mod Course
pub mod Slide
pub mod Greedy
pub mod Best
pub mod Corners
pub mod FirstPath
pub mod Bends
