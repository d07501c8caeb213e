-- the code, turn by turn
pub mod Walks
pub mod BoundRows
-- what walkers, runs and single firings mean
pub mod Walkers
pub mod Following
pub mod Folded
-- the calls, and a promise
pub mod Done
pub mod Demands
