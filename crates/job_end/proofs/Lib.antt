-- What is proved of a job that is run whole.
pub mod Reading
pub mod Ending
pub mod Leaving
pub mod Answering
