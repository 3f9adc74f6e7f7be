pub mod AnyCall
pub mod Formula
pub mod Work
pub mod Samples
