-- the tables and the grid, and what each number in them is
pub mod Tables
pub mod Page
pub mod Numbers
-- the tests on them
pub mod Clauses
pub mod Marks
-- the call
pub mod Calls
