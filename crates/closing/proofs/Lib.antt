pub mod Answers
pub mod Closing
