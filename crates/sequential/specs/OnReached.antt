-- The clauses of a schedule other than reachability (§6.7), asked only of the nodes that the root leads to, and of every node: §13.18.
use Rattle.std.specs.Prelude.{ℕ, ◌<◌, ◌≡◌}
use Rattle.std.proofs.Math.Option.{some}
use Rattle.automaton.specs.Automaton.{Automaton}
use Rattle.automaton.specs.Reach.{Reachable}
use Rattle.sequential.specs.Petri.{PetriNet, initial, fire, Enabled}
use Rattle.sequential.specs.Schedule.{Await, OneChoiceSet, ToAwait}

-- §6.2 to §6.6 and §6.8, in their order
pub record HoldsOnReached (N : PetriNet) (A : Automaton) : Type 0 where
  pub starts : A.label 0 ≡ initial N
  pub choices : (n : ℕ) → Reachable A n → OneChoiceSet N A n
  pub root_awaits : Await N A 0
  pub enables : (n t m : ℕ) → Reachable A n → A.arc n t ≡ some m → Enabled N (A.label n) t
  pub lands : (n t m : ℕ) → Reachable A n → A.arc n t ≡ some m → A.label m ≡ fire N (A.label n) t
  pub returns : (n : ℕ) → Reachable A n → ToAwait N A n

-- the same of every node: a schedule, except that 16 may refuse it
pub record HoldsOnAll (N : PetriNet) (A : Automaton) : Type 0 where
  pub starts : A.label 0 ≡ initial N
  pub choices : (n : ℕ) → n < A.nodes → OneChoiceSet N A n
  pub root_awaits : Await N A 0
  pub enables : (n t m : ℕ) → n < A.nodes → A.arc n t ≡ some m → Enabled N (A.label n) t
  pub lands : (n t m : ℕ) → n < A.nodes → A.arc n t ≡ some m → A.label m ≡ fire N (A.label n) t
  pub returns : (n : ℕ) → n < A.nodes → ToAwait N A n
