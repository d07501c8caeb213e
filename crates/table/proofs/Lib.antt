-- keys that rise
pub mod Table
pub mod Keys
-- look-ups, one by one
pub mod Bisection
-- a run of keys, by one walk
pub mod Next
pub mod Walk
pub mod Row
-- the promises
pub mod Demands
