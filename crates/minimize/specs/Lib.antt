pub mod Tables
pub mod Both
pub mod Agree
pub mod Runs
pub mod Leaders
