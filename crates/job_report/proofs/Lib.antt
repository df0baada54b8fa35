-- What is proved of a job's lines.
pub mod Foil0
pub mod Places
pub mod Output
pub mod Coming
pub mod Answering
pub mod Telling
pub mod Reporting
pub mod Writing
