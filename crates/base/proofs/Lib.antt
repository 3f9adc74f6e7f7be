pub mod Bytes
pub mod Fill
pub mod Numbers
pub mod Pieces
