pub mod Block
pub mod ByTables
