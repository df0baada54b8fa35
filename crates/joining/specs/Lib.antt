-- What the contracts of join cite.
pub mod Sought
pub mod Ready
