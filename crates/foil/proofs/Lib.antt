-- Laws of the calls.
pub mod Limits
pub mod Making
pub mod Giving
pub mod Writing
pub mod Beginning
pub mod Adding
pub mod Lifting
pub mod Looking
pub mod Listed
