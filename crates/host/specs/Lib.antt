-- What the contracts of the calls over structs cite.
pub mod Calls
pub mod Flats
pub mod Records
pub mod Carried
