-- What the contracts of the labels' code say, of lists only.
pub mod Pass
pub mod Rounds
pub mod Walk
