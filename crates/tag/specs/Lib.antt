pub mod Way
pub mod Call
