-- What the contracts of carrying over cite.
pub mod Marks
pub mod Carried
