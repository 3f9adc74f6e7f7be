pub mod Answers
pub mod Opening
