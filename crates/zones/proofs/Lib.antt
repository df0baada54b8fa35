-- Laws of what is free, and of tables whose zones can be told.
pub mod Free
pub mod Tables
pub mod Zoning
