-- the counts that the arcs force
pub mod Routes
pub mod Bare
pub mod Mended
-- when they are right, and what changes
pub mod Exact
pub mod Changes
pub mod Copied
-- the call, and worked examples
pub mod Done
pub mod Examples
