pub mod Encoding
pub mod Rows
pub mod Kept
pub mod Lengths
