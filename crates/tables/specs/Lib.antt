-- What the contracts of a table in the making cite.
pub mod Rows
pub mod Legs
pub mod StripList
pub mod Booked
