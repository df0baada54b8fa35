-- What the contracts of the calls on a sheet cite, and what those of their parts do.
pub mod Contract
pub mod Parts
pub mod Listed
