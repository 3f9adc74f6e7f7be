pub mod Plan
pub mod Numbers
