pub mod Roundtrip
pub mod KeptAgain
pub mod Judged
