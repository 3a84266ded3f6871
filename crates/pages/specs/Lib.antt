pub mod Memory
pub mod Diffs
