-- What the job program can write.
pub mod JobLines
