-- What the contracts of a line's code say, of lists only.
pub mod Line
pub mod Ink
