pub mod Limits
pub mod Refusal
pub mod Verdict
pub mod Checks
pub mod Finding
pub mod Index
