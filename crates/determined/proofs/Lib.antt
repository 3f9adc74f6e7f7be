pub mod Words
pub mod Determined
pub mod DeterminedFloors
pub mod DeterminedTag
pub mod DeterminedStand
