pub mod Fields
pub mod Normal
