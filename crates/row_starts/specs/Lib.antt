pub mod Page
pub mod RowStarts
pub mod Demands
