pub mod Net
pub mod Checks
pub mod Check
pub mod Known
pub mod Accessors
pub mod Demands
pub mod Examples
