pub mod Walker
pub mod Firing
pub mod Calls
pub mod Plain
pub mod Walks
pub mod Rows
pub mod Demands
