-- What the laws of runs and strips say.
pub mod Rules
