-- keys and values
pub mod Lists
pub mod Gather
-- an automaton's words, and back
pub mod Encoding
pub mod Entries
pub mod Encoded
pub mod Reading
pub mod Decoded
pub mod Recoded
-- its rows, one behind the other
pub mod Rows
pub mod Sections
-- nodes that are kept under new numbers
pub mod Kept
