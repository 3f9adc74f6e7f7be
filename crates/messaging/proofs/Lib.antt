pub mod Costs
pub mod Laid
