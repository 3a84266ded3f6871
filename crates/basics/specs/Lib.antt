pub mod Sizes
pub mod Refusals
pub mod Numbers
pub mod Lines
