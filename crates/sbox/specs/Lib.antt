pub mod Columns
pub mod Field
pub mod Tables
pub mod Words
