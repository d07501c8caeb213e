-- an arc and a capacity, as the code reads them
pub mod Reading
-- a row that a loop stores
pub mod Storing
-- the nodes in the order in which they are found
pub mod Searches
pub mod Parents
-- a place's counts along it
pub mod Fits
pub mod Filling
pub mod Testing
-- a node's row again, and what is written
pub mod Climbing
pub mod Writes
-- the call
pub mod Measuring
pub mod Done
