pub mod State
pub mod Order
pub mod Turns
pub mod Walking
pub mod Along
