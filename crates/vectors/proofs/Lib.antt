-- the vectors tell what happens before what
pub mod Reaching
pub mod Exact
pub mod Vectors
-- the race check
pub mod Latest
pub mod Conflicts
pub mod Found
pub mod Unordered
pub mod Held
pub mod Races
-- the memory check, and both
pub mod Stale
pub mod Told
