-- What the contracts of book cite.
pub mod Clear
pub mod Segments
pub mod Booking
pub mod Tracks
