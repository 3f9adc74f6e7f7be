pub mod Series
pub mod Worked
