-- Laws of runs and strips. Laws has the statements in document 01's words, Rectangle what follows of a strip's points;
-- the others are what Laws is proved with.
pub mod Stop
pub mod Runs
pub mod Strips
pub mod Listed
pub mod Laws
pub mod Rectangle
