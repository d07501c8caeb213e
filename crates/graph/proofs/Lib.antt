-- words that can be read
pub mod Pass
pub mod Readable
-- a node's rows and arcs
pub mod Starts
pub mod Bounds
pub mod HasRow
pub mod Rows
pub mod LookUp
pub mod ArcCount
-- the promises
pub mod Demands
