-- What the contracts of the test say.
pub mod Box
