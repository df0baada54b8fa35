-- What is proved of a line's code.
pub mod Line
pub mod Inks
