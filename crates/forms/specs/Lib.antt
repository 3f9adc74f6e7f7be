pub mod Rooms
pub mod Forms
