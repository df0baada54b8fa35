-- Laws of the search.
pub mod Grid
pub mod Shallow
pub mod Choice
pub mod Written
pub mod Search
pub mod Finding
pub mod Here
pub mod OneTarget
