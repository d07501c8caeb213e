-- classes
pub mod Agree
pub mod NodeRows
pub mod Level
pub mod Leaders
-- numbers
pub mod SearchOrder
-- words
pub mod Runs
pub mod NewRows
pub mod Writing
pub mod TwoForms
pub mod Told
