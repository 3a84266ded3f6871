pub mod Codec
pub mod History
pub mod Home
pub mod Ranges
pub mod Station
