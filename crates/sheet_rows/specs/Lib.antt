-- What the contracts of the sheet's rows cite.
pub mod Rows
