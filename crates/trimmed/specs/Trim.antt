-- Trimming (§10.35): the graph cut down to the nodes that the root leads to, numbered anew in their old order; and when one graph is another one cut down in this way.
use Rattle.std.specs.Prelude.{ℕ, ◌-◌, ◌<◌, ◌≡◌, ◌↔◌, Bool, cond, List, [], ltb, length, get_or}
use Rattle.std.proofs.Math.Option.{none, map}
use Rattle.scan.specs.Scan.{count, passing}
use Rattle.automaton.specs.Automaton.{Automaton}
use Rattle.automaton.specs.Reach.{Reachable, reached_in}
use Rattle.sequential.specs.Petri.{petri_net}
use Rattle.sequential.specs.Words.{graph}
use Rattle.encoding.specs.Encoding.{gather, encode}

module _ (A : Automaton) where
  -- n is reached from the root (§6.7), whether or not the arcs on the way are enabled; V - 1 of them are enough (§6.9)
  unfoldable pub is_kept : ℕ → Bool
  is_kept n = reached_in A (A.nodes - 1) n

  -- the kept nodes in their old order: for each new number the old one (§10.37)
  unfoldable pub old_numbers : List ℕ
  old_numbers = gather (passing is_kept) A.nodes

  -- a kept node's new number: how many kept nodes come before it (§10.36)
  unfoldable pub new_number : ℕ → ℕ
  new_number n = count is_kept n

  -- the kept nodes with their arcs, to the new numbers of the targets, and their counts (§10.36); nothing past the nodes
  unfoldable pub trimmed_graph : Automaton
  trimmed_graph = record {
    nodes = length old_numbers;
    transitions = A.transitions;
    arc = λ i t. cond (ltb i (length old_numbers)) (map new_number (A.arc (get_or old_numbers i 0) t)) none;
    label = λ i. cond (ltb i (length old_numbers)) (A.label (get_or old_numbers i 0)) [];
  }

-- what is written: the words of that graph (§11.6), and the list
unfoldable pub trimmed_words : List ℕ → List ℕ → List ℕ
trimmed_words net sheet = encode (petri_net net) (trimmed_graph (graph (petri_net net) sheet))

unfoldable pub kept_list : List ℕ → List ℕ → List ℕ
kept_list net sheet = old_numbers (graph (petri_net net) sheet)

-- ---- what trimming means

-- M is A cut down to its reached nodes: f takes these one to one onto the nodes of M, keeps their order, takes the root to the root, and carries arcs and labels over
pub record Trimming (A M : Automaton) (f : ℕ → ℕ) : Type 0 where
  pub root : f 0 ≡ 0
  pub node : (n : ℕ) → Reachable A n → f n < M.nodes
  pub onto : (i : ℕ) → i < M.nodes → (n : ℕ) × Reachable A n × (f n ≡ i)
  pub rising : (n m : ℕ) → Reachable A n → Reachable A m → n < m → f n < f m
  pub arcs : (n t : ℕ) → Reachable A n → M.arc (f n) t ≡ map f (A.arc n t)
  pub labels : (n : ℕ) → Reachable A n → M.label (f n) ≡ A.label n

-- a list of exactly the reached nodes, rising
pub record ListsReached (A : Automaton) (list : List ℕ) : Type 0 where
  pub exactly : (n : ℕ) → ((i : ℕ) × (i < length list) × (get_or list i 0 ≡ n)) ↔ Reachable A n
  pub rising : (i j : ℕ) → i < j → j < length list → get_or list i 0 < get_or list j 0
