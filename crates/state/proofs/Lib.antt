-- Laws that the proofs of the state check use.
pub mod Fronts
pub mod Crossings
pub mod Checking
pub mod Rising
pub mod Rows
