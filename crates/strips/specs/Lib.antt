-- What the contracts of the crate say.
pub mod Rows
pub mod RowBoxes
pub mod Sweep
pub mod Decided
pub mod Joining
pub mod Built
pub mod Places
