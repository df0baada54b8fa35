-- Laws of a sheet of eight foils.
pub mod Counts
pub mod Shares
pub mod Parts
pub mod Places
pub mod Line
pub mod Rows
pub mod Views
pub mod Called
pub mod Lending
pub mod Alone
pub mod Starting
pub mod Sheet
pub mod Saved
pub mod Drawn
pub mod Back
pub mod Jobs
