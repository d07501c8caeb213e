pub mod Compare
pub mod Means
