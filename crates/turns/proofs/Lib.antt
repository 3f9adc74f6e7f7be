pub mod Acting
pub mod Taking
