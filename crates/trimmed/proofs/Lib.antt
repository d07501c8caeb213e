-- the numbers of kept nodes
pub mod Rank
-- a graph that is cut down
pub mod Unique
pub mod Trimmed
-- its words, entry by entry
pub mod Gathered
pub mod Moved
pub mod Entries
-- what they say, and whether they are accepted
pub mod Words
-- the call
pub mod Done
pub mod Examples
