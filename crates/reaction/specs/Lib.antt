-- between two await nodes: runs, how long they last, loops
pub mod Busy
pub mod Duration
pub mod Loop
-- best and worst, by rounds and by what they mean
pub mod Extreme
pub mod ToGo
pub mod Meaning
-- durations and report as words, the checks, the call
pub mod Words
pub mod Checks
pub mod Tests
pub mod Call
-- what the checks leave, and what the report tells
pub mod Known
pub mod Times
pub mod Examples
-- the table of the recursion
pub mod Memo
