pub mod Image
pub mod Answers
