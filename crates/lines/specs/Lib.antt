pub mod Lines
pub mod Hex
