pub mod Chaining
pub mod Inverse
pub mod KeyBlocks
pub mod MacBlocks
pub mod Steps
pub mod Worked
