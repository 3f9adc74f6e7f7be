pub mod Costs
pub mod Wrapping
