-- 21 and 31, then the words
pub mod Early
-- bytes decoded, and results written as bytes
pub mod Cut
pub mod Results
-- the single firing
pub mod Firing
-- what is promised: by checks, demand 3, the firing both ways
pub mod Judged
pub mod WordCalls
pub mod Forms
pub mod Fires
pub mod Demands
