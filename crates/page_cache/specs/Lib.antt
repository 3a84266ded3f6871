pub mod Slots
pub mod Caches
