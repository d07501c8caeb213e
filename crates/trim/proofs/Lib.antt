-- new numbers
pub mod Numbering
-- what is written
pub mod Reading
pub mod Writing
pub mod Done
