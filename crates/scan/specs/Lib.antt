pub mod Scan
pub mod Front
pub mod Placed
