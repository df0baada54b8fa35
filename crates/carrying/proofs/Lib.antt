-- What is proved of carrying over.
pub mod Marking
pub mod Keeping
pub mod Reporting
pub mod Ending
