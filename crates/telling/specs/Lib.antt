pub mod Plain
pub mod Names
pub mod Exchanges
pub mod Decision
pub mod Work
pub mod Turns
