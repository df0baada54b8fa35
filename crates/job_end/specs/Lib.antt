-- What the contracts of a job that is run whole cite, and of what is asked of the foil that it leaves.
pub mod Left
pub mod Parts
pub mod Asked
