pub mod Reading
pub mod OneTap
pub mod Samples
pub mod OtherPadding
