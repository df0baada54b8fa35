-- Laws of drawn ways, and of booking them.
pub mod Clear
pub mod Segments
pub mod Walking
pub mod Booking
pub mod Tracking
pub mod Checking
