-- Laws of lay.
pub mod Checking
pub mod Tracking
