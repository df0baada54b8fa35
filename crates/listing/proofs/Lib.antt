-- Laws of a list of nets: whether they are too many, what a lay answers, and the nets one after the other.
pub mod Many
pub mod Answering
pub mod Listing
