-- Laws of a net's legs and their steps.
pub mod Measuring
