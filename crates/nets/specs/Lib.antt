-- What the contracts cite.
pub mod Measured
