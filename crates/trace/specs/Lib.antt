pub mod Events
pub mod Bytes
pub mod Order
pub mod Memory
pub mod Kinds
pub mod Words
