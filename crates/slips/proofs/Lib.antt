-- What is proved of the functions under the slip.
pub mod Marking
pub mod Right
pub mod Rising
pub mod Answering
