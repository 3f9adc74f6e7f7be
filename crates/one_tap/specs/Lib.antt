pub mod OneTap
pub mod Samples
