-- What the contracts of the labels before the first round say.
pub mod Seeds
