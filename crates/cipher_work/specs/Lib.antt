pub mod CipherWork
pub mod Samples
