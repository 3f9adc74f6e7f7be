pub mod Calling
pub mod Ways
