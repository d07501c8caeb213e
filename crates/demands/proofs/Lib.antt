-- what holds of every call, and of a check that answered 0
pub mod Calls
pub mod Checked
-- the three demands
pub mod Demand1
pub mod Demand2
pub mod Demand3
-- what is promised beside them, request by request
pub mod Further
pub mod Renumbered
pub mod Shortest
pub mod BesideRun
pub mod Replay
pub mod Entries
pub mod Mend
pub mod Dependent
pub mod Compose
pub mod Trim
pub mod Reaction
pub mod Capacities
pub mod Panel
pub mod ToldIndex
pub mod Compare
pub mod Reading
pub mod Slow
-- worked examples
pub mod Examples
pub mod Nine
