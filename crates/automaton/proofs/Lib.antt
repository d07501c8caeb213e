-- the order of numbers
pub mod Before
-- lists, what they lead to, and ways to a goal
pub mod Automaton
pub mod Rounds
pub mod Reach
pub mod Lead
-- equivalence: by rounds, and by the classes that tables of leaders tell
pub mod Targets
pub mod Leader
pub mod Refinement
pub mod Same
pub mod Equivalence
pub mod Classes
-- breadth-first numbers, and that they leave one automaton
pub mod BreadthFirst
pub mod Unique
-- the search that finds them
pub mod Index
pub mod Search
pub mod Turns
-- the minimal automaton
pub mod Quotient
pub mod Carried
pub mod Kept
pub mod Minimal
pub mod Fewest
pub mod MinimalBy
