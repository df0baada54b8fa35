-- Laws of find.
pub mod Points
pub mod Searching
pub mod Finding
