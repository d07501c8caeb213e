-- what is read
pub mod Replies
-- what is printed, and that it has room
pub mod Longest
pub mod Printing
pub mod Whole
-- worked examples, and the promises
pub mod Examples
pub mod Demands
