-- What the contracts of the calls cite.
pub mod Contract
pub mod Listed
