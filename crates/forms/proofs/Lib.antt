pub mod Laying
pub mod Forming
