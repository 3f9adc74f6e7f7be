pub mod Plainly
pub mod Naming
