-- What it means that bytes are put into a list.
pub mod Put
