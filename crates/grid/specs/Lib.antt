-- What the contracts of the escape grid's code say.
pub mod Size
pub mod Extent
pub mod Lines
pub mod Axis
pub mod Links
pub mod Targets
