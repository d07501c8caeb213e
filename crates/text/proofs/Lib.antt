-- pieces and numbers
pub mod Put
pub mod Decimal
pub mod Joined
-- how long it is, and the promise
pub mod Longest
pub mod Demands
