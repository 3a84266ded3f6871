pub mod Places
pub mod OneMore
