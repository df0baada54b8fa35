-- What is proved of the ohms' program.
pub mod Numbers
pub mod Reading
pub mod Digits
pub mod Printing
