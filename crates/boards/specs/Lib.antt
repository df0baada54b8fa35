-- What the contracts of the boards say.
pub mod Board
