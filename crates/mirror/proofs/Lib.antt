pub mod Costs
pub mod Inside
pub mod Laying
pub mod Shape
