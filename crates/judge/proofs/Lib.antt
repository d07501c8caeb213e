pub mod Run
pub mod FullRows
pub mod Starts
pub mod Arcs
pub mod Judged
