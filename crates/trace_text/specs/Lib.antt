pub mod Chars
pub mod Parts
pub mod Text
pub mod Readers
