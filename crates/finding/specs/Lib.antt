-- What the contracts of find cite.
pub mod Points
pub mod Found
