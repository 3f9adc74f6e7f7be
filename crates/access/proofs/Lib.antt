pub mod Modes
pub mod Taps
pub mod Rights
