-- What the contracts of the plain search say.
pub mod Free
