pub mod Fed
pub mod Judges
pub mod Laws
