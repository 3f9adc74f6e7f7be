pub mod Determining
