-- What is proved of the escape grid's code, and of the grid over the foil.
pub mod Covers
pub mod Marking
pub mod Painting
pub mod Board
