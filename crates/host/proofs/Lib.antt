-- What the proofs of the calls over structs share.
pub mod Flats
pub mod Fronts
pub mod Tables
pub mod Lists
pub mod Running
pub mod Carried
