pub mod Walking
pub mod Reading
