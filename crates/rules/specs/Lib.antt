pub mod Rules
pub mod Numbers
