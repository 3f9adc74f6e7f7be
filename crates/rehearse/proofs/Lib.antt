pub mod Descriptors
pub mod Walking
