pub mod Padding
pub mod Unpadding
