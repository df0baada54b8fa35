-- What the contract of a list of nets cites, and what those of its parts do.
pub mod Contract
pub mod Parts
