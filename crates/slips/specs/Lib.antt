-- What the contracts of the slip cite.
pub mod Writing
