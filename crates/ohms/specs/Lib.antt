-- What the contracts cite, and the statements on the figures that are answered.
pub mod Contract
pub mod Exact
pub mod Finite
