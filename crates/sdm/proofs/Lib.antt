pub mod Mirroring
