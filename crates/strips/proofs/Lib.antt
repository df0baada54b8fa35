-- Laws that the functions are proved with, and those that callers need: Placing.
pub mod Changing
pub mod Standing
pub mod Entering
pub mod Leaving
pub mod Sweeping
pub mod Listing
pub mod RowToRow
pub mod RowRuns
pub mod NextRun
pub mod Deciding
pub mod OpenStrips
pub mod JoiningRow
pub mod Placing
