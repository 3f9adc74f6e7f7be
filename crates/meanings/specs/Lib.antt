pub mod Meaning
pub mod Placing
pub mod Worked
