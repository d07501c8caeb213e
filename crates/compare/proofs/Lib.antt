-- the words compared, a refusal that is given its schedule, and the paths of the code
pub mod Words
pub mod Mapped
pub mod Paths
-- what is true of the call, and what it says of two schedules
pub mod Done
pub mod Says
