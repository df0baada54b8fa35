-- What the laws of paths say.
pub mod First
