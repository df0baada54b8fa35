-- What the contracts of the lines cite, and what the job program writes.
pub mod Lines
pub mod Output
pub mod Jobs
