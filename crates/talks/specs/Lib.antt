pub mod Log
pub mod Verdict
