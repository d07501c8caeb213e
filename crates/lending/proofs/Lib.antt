-- a call's code, path by path
pub mod Lent
pub mod Laws
-- what is true of every call
pub mod Judged
pub mod Done
pub mod Demands
pub mod Reading
pub mod Named
