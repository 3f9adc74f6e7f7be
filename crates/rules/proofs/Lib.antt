pub mod Fitting
pub mod Found
