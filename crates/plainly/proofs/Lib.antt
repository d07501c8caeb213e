-- chains over numbers
pub mod Ranges
-- numbers with a sign, and room
pub mod Signed
pub mod Room
-- what the tables and the grid tell, cell by cell
pub mod Told
pub mod Landing
-- scans over the arcs, and marks at the nodes
pub mod Keys
pub mod MarkLaws
-- the words: each cell is looked up, and the net and the graph told are those of the words
pub mod LookUp
pub mod Whole
-- the answer, and that it is the one of the checks
pub mod Answer
pub mod Right
