-- The bounds: Bound has that on bends by strips, with Trails; Pins has that on the strips that boxes leave, and Boxed
-- what follows for paths among boxes.
pub mod Trails
pub mod Bound
pub mod Pins
pub mod Boxed
