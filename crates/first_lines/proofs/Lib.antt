pub mod Tidying
pub mod Begins
