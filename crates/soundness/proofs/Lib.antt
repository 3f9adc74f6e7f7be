pub mod Inside
pub mod Readings
