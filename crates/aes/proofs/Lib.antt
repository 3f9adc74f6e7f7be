pub mod Rounds
pub mod Words
