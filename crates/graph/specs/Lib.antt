pub mod Readable
pub mod Rows
pub mod LookUp
pub mod Demands
