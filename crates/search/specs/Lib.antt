-- What the contracts of the search say.
pub mod Grid
pub mod Choice
pub mod Search
