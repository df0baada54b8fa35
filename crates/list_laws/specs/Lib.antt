-- What statements about lists are written with.
pub mod Members
