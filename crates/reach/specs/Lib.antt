pub mod Reach
pub mod Marks
pub mod Demands
