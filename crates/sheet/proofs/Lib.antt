-- Laws of the calls on a sheet: their checks, and one law each for the ends of steps, reads, records and lists.
pub mod Checking
pub mod Closing
pub mod Reading
pub mod Recording
pub mod Listing
pub mod Listed
