-- What is proved beside the definitions; their other laws stand in the crates whose names end in _laws.
pub mod Orders
pub mod Starred
pub mod Written
pub mod Sheets
pub mod Outputs
