pub mod Protect
