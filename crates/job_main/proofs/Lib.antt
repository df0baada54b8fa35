-- What is proved of the job program's writing.
pub mod Still
