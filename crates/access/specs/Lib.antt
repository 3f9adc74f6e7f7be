pub mod Access
pub mod Marks
