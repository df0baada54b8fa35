-- What the contracts of the ohms' program cite.
pub mod InkBytes
pub mod Printed
