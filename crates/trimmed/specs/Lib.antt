pub mod Trim
pub mod Entries
pub mod Call
pub mod Examples
