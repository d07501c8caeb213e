pub mod Automaton
pub mod Reach
pub mod Equivalence
pub mod BreadthFirst
pub mod Quotient
