-- runs by busy nodes, and loops of them
pub mod Busy
pub mod Loop
pub mod Marks
pub mod Stops
pub mod Short
-- least and greatest, runs weighed, and the equations with their one solution
pub mod Extreme
pub mod Runs
pub mod Values
pub mod Unique
-- the loop over a node's arcs, and the table of the recursion
pub mod Turns
pub mod Memo
-- 32 and 33, the report, and what it tells
pub mod Durations
pub mod Judged
pub mod Plain
pub mod Report
pub mod Times
pub mod Examples
