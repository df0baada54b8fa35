-- Courses by segments, as the search sees them.
pub mod Course
pub mod Best
