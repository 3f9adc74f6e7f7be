pub mod Keys
pub mod Forms
pub mod Names
pub mod Placed
