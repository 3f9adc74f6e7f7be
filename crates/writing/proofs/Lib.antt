pub mod Counted
pub mod Laying
pub mod Meets
pub mod Small
