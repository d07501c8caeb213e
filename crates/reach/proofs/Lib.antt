-- how marks spread
pub mod Passes
-- what they mean then
pub mod Meaning
pub mod Demands
