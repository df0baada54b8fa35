-- The statements that are proved of the ledger.
pub mod Line
pub mod Moments
pub mod Demand2
pub mod Apart
pub mod LookUp
pub mod Demand3
pub mod Drawn
pub mod Joins
pub mod Crossed
pub mod OldJobs
pub mod Numbers
pub mod Carrying
pub mod Singly
pub mod Saved
