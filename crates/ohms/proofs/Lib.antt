-- Laws that the proofs of the functions use, and the theorems on exact and finite figures.
pub mod Floats
pub mod Figures
pub mod Accepted
pub mod Answering
pub mod Exact
pub mod Finite
