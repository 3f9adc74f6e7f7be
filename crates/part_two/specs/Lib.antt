pub mod PartTwo
