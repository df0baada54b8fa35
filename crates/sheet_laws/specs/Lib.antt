-- The statements that are proved of a sheet of eight foils.
pub mod Answers
pub mod Line
pub mod Sheet
pub mod Alone
pub mod Shares
pub mod Places
pub mod Saved
pub mod Drawn
pub mod Back
pub mod Jobs
