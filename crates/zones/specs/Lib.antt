-- What is blocked of a foil, as boxes.
pub mod Boxes
pub mod Table
