pub mod NewName
