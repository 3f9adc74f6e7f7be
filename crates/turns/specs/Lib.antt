pub mod Steps
pub mod Acts
pub mod Lines
