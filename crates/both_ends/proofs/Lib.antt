pub mod Authenticating
pub mod Messages
