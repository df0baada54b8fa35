-- Laws that the proofs of tables in the making use.
pub mod Filling
pub mod Appending
pub mod Nets
pub mod Putting
pub mod Taking
pub mod Copying
