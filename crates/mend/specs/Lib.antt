pub mod Search
pub mod Places
pub mod Rows
pub mod Writing
pub mod Measure
