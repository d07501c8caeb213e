pub mod Rows
pub mod Cases
pub mod Loops
pub mod Times
pub mod Report
pub mod Checked
