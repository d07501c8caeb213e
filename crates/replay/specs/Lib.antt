pub mod Log
pub mod Checks
pub mod Tests
pub mod Calls
pub mod Plain
pub mod Tally
pub mod LookUp
