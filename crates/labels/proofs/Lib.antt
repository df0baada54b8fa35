-- What is proved of the labels' code, and what labels mean.
pub mod Runs
pub mod Marks
pub mod Pass
pub mod Part
pub mod Going
pub mod Last
pub mod Walk
pub mod Faithful
pub mod Meaning
pub mod First
