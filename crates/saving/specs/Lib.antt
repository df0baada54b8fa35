-- What the contracts of saving cite.
pub mod File
