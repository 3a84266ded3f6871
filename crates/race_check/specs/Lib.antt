pub mod Rows
pub mod States
pub mod Checks
pub mod Whole
