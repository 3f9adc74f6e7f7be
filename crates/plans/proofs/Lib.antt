pub mod Long
pub mod Numbering
