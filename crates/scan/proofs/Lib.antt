-- the words of the logic
pub mod Basics
-- tests
pub mod Tests
-- what a scan finds, counts, sums and bounds
pub mod First
pub mod Every
pub mod Decide
pub mod Count
pub mod Sum
pub mod Greatest
pub mod Least
-- tables and buffers that loops fill
pub mod Tabulate
pub mod Front
pub mod Placed
