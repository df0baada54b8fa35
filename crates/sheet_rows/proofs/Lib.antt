-- Laws of the sheet's rows: the counts one a turn, and the copies that take rows out and put them back.
pub mod Counting
pub mod Copying
pub mod Tables
pub mod Records
