-- what the rows tell
pub mod Rows
pub mod Choices
-- what a node offers, and all nodes
pub mod Whole
pub mod Offer
pub mod Answer
pub mod Passed
-- what that says of the schedule
pub mod Right
pub mod Demands
