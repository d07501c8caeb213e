-- durations
pub mod Lasting
-- the arcs of a node
pub mod ArcRows
pub mod RowWalks
-- loops
pub mod StopMarks
pub mod Spreading
pub mod LoopMarks
pub mod LedBack
pub mod Endless
-- times
pub mod Recursion
pub mod AllTimes
-- the report
pub mod RowPairs
pub mod ReportSize
pub mod Reporting
pub mod Done
