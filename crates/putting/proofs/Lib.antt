-- Laws of bytes put into a list, and of numbers in decimal.
pub mod Putting
pub mod Decimals
