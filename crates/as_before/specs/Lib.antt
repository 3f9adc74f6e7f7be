pub mod Before
pub mod AsBefore
