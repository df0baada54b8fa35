-- Laws of saving.
pub mod Records
pub mod Beginnings
pub mod Saves
