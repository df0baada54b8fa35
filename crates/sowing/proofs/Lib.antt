-- Laws of the labels before the first round.
pub mod Seeds
pub mod Boxed
pub mod Near
