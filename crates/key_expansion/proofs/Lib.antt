pub mod KeyWords
pub mod Schedule
