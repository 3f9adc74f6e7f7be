pub mod Talks
pub mod Reaching
pub mod Samples
pub mod Inside
pub mod Locking
pub mod LockingSamples
