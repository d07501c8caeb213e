pub mod Rows
pub mod Choices
pub mod Whole
pub mod Nodes
pub mod Passing
pub mod Demands
