pub mod Bytes
pub mod Replies
pub mod Outcomes
pub mod Locks
pub mod Home
pub mod Cache
pub mod Station
