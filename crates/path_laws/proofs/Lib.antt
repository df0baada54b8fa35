-- Laws of paths; Laws.antt has the main ones, to be read alone.
pub mod Segments
pub mod Goings
pub mod Bound
pub mod Order
pub mod FirstPath
pub mod Ways
pub mod Ends
pub mod Laws
