pub mod Minimal
pub mod Form
