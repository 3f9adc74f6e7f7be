pub mod PartTwos
