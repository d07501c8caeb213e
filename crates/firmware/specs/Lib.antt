pub mod Bytes
pub mod Calls
pub mod Parts
pub mod Demands
