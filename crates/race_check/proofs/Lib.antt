pub mod Entries
pub mod Ticks
pub mod Vectors
pub mod ReadSteps
pub mod Starting
pub mod Feeding
pub mod Taken
pub mod Wholes
