-- What the contracts of the state check cite.
pub mod Tests
