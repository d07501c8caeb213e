-- The contents of the tables that the functions hand to each other. No contract of a public function cites it.
use Rattle.std.specs.Prelude.{ℕ, ◌≤◌, ◌<◌, ◌≡◌, List, length, get_or}
use Rattle.automaton.specs.Automaton.{Automaton}
use Rattle.automaton.specs.Equivalence.{same, same_class}
use Rattle.automaton.specs.Quotient.{minimal}
use Rattle.sequential.specs.Petri.{petri_net}
use Rattle.sequential.specs.Words.{graph}
use Rattle.graph.specs.Readable.{Readable}
use Rattle.breadth_first.specs.Along.{class_in}
use Rattle.encoding.specs.Encoding.{keys}
use Rattle.encoding.specs.Kept.{Kept}
use Rattle.minimize.specs.declared.numbering.Numbers.{Numbers}

-- a table of classes: two nodes have the same entry exactly if they are to become one
pub record Classes (A : Automaton) (classes : List ℕ) : Type 0 where
  pub low : (n : ℕ) → n < A.nodes → class_in classes n < A.nodes
  pub right : (n m : ℕ) → n < A.nodes → m < A.nodes → same_class (class_in classes) n m ≡ same A n m

-- for each of the first nodes, the index of its class
pub record Placed (classes index numbers : List ℕ) (nodes : ℕ) : Type 0 where
  pub right : (m : ℕ) → m < nodes → get_or numbers m 0 ≡ get_or index (class_in classes m) 0

-- the nodes of the minimal form, for readable words: the old nodes that stand for them, how many there are, and the new number of each node to which an arc leads
pub record NewNodes (net sheet : List ℕ) (new : Numbers) : Type 0 where
  pub readable : Readable net sheet
  pub size : (minimal (graph (petri_net net) sheet)).nodes ≡ new.found
  pub few : new.found ≤ 128
  pub kept : Kept (graph (petri_net net) sheet) (minimal (graph (petri_net net) sheet)) new.reps new.numbers

-- how many entries the minimal form has
pub record Counted (net sheet : List ℕ) (entries : ℕ) : Type 0 where
  pub are : entries ≡ length (keys (petri_net net) (minimal (graph (petri_net net) sheet)))
  pub few : entries ≤ 8192
