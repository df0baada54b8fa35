-- How bent a path can get: by the number of strips, and by that of boxes.
pub mod Bound
pub mod Boxed
