pub mod SlotLaws
pub mod Counting
pub mod Viewing
pub mod Writing
pub mod Moving
