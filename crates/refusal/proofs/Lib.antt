-- one verdict
pub mod Verdicts
-- the numbers of reasons
pub mod Reasons
-- checks in an order
pub mod Checks
pub mod Judges
