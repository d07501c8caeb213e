pub mod Page
pub mod Demands
