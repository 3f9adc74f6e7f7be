pub mod Bytes
pub mod Decide
pub mod Status
