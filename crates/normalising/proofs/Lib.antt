pub mod Laying
pub mod Normals
pub mod Same
