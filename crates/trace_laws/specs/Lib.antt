pub mod Codec
pub mod Beginnings
