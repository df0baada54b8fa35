-- What is proved of join.
pub mod Seeking
pub mod Own
pub mod Aiming
pub mod Checking
pub mod Tracking
