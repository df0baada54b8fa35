-- Laws that the proofs of a record use.
pub mod Places
pub mod Checking
pub mod Acting
pub mod Ending
pub mod ByBit
pub mod Bits
pub mod Stepping
pub mod Wholes
pub mod Replies
