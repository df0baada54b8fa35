-- What is proved of the slip.
pub mod Wide
pub mod Columns
pub mod Reading
pub mod Pages
pub mod Slips
