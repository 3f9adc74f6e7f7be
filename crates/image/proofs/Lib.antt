pub mod Pieces
pub mod Shapes
