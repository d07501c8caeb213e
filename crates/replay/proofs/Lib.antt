-- the log, followed
pub mod LookUp
pub mod Logs
pub mod Following
-- what it says, and its sums
pub mod Replays
pub mod Sums
pub mod Sides
-- the call
pub mod Done
