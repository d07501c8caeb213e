-- the checks, number by number
pub mod Shape
pub mod Entries
pub mod Pass
pub mod Source
-- weights and capacities as they are answered
pub mod Accessors
pub mod Overfull
-- accepted exactly, and worked examples
pub mod Checks
pub mod Examples
-- what the crates above use, and the promises
pub mod Laws
pub mod Demands
pub mod Cut
pub mod Runs
