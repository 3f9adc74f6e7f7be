pub mod Keys
pub mod NextKey
