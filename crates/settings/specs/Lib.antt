pub mod Filing
pub mod Answers
