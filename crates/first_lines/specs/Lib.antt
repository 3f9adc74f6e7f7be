pub mod Said
pub mod Begins
