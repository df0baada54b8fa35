-- What the contracts of a reported record cite, what a whole job writes, and what programs write part by part.
pub mod Report
pub mod Told
pub mod Writing
