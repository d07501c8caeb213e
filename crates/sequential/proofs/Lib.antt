-- the words
pub mod Words
pub mod Entries
-- the tests and the clauses that they decide
pub mod Choices
pub mod FreeChoice
pub mod Clauses
pub mod Faults
-- what follows of an accepted schedule
pub mod Accepted
pub mod Runs
pub mod Capacities
pub mod Published
pub mod Paths
pub mod Numbers
pub mod Bounds
-- what a map onto another graph keeps
pub mod Carried
-- words past the longest
pub mod Cut
-- a net with one source alone
pub mod Only
