-- Laws of tests, lists and digits that the other laws are proved with.
pub mod Tests
pub mod Members
pub mod Counting
pub mod Digits
pub mod Places
