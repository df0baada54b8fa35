-- What the contract of a record cites, and what those of its parts do.
pub mod Contract
pub mod Parts
