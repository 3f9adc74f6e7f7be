pub mod Columns
pub mod Linear
pub mod Power
pub mod Rule
pub mod Table
pub mod Words
