pub mod Examples
pub mod Limits
pub mod Indices
pub mod Taken
pub mod TakenKeys
pub mod TakenLaws
pub mod Words
