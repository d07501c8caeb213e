-- the minimal form of a schedule
pub mod Length
pub mod Schedule
pub mod Minimal
-- the call
pub mod Done
