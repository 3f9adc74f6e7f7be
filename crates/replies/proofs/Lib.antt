pub mod Accepting
pub mod Costs
pub mod Equal
pub mod Given
