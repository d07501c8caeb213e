-- Shortest means shortest (request #113, §11.10 to §11.12): the words that any call of the minimal form wrote, compared with every accepted schedule of the same net
-- that allows the same lists. proofs/Shortest has a term for the record.
use Rattle.std.specs.Prelude.{ℕ, ◌≤◌, ◌<◌, ◌≡◌, ◌↔◌, cond, List, [], ltb, length}
use Rattle.std.proofs.Math.Option.{none, map}
use Rattle.automaton.specs.Automaton.{Automaton, SameLists}
use Rattle.sequential.specs.Petri.{petri_net}
use Rattle.sequential.specs.Words.{node_count, entry_count}
use Rattle.encoding.specs.Encoding.{encode}
use Rattle.demands.specs.Terms.{said, Accepted}
use Rattle.demands.specs.Demand3.{AlwaysAccepted, Form, size, made}

-- ---- other numbers for the nodes

-- `to` gives each node its new number, and `from` gives the old one back; the root keeps its number
pub record Renumbers (nodes : ℕ) (to from : ℕ → ℕ) : Type 0 where
  pub root : to 0 ≡ 0
  pub there : (n : ℕ) → n < nodes → to n < nodes
  pub back : (i : ℕ) → i < nodes → from i < nodes
  pub there_back : (n : ℕ) → n < nodes → from (to n) ≡ n
  pub back_there : (i : ℕ) → i < nodes → to (from i) ≡ i

-- the graph under the new numbers: each node has the arcs that it had, to the new numbers of their targets, and the counts that it had
unfoldable pub renumbered : Automaton → (ℕ → ℕ) → (ℕ → ℕ) → Automaton
renumbered A to from = record {
  nodes = A.nodes;
  transitions = A.transitions;
  arc = λ i t. cond (ltb i A.nodes) (map to (A.arc (from i) t)) none;
  label = λ i. cond (ltb i A.nodes) (A.label (from i)) [];
}

-- the words of that graph: §11.6
abbrev pub renumbered_words : List ℕ → List ℕ → (ℕ → ℕ) → (ℕ → ℕ) → List ℕ
renumbered_words net sheet to from = encode (petri_net net) (renumbered (said net sheet) to from)

-- `other` differs from `sheet` only in the numbers of its nodes: §11.11
abbrev pub SameButNumbers : List ℕ → List ℕ → List ℕ → Type 0
SameButNumbers net sheet other = (to : ℕ → ℕ) × (from : ℕ → ℕ) × Renumbers (node_count sheet) to from × (other ≡ renumbered_words net sheet to from)

-- `other` is accepted and allows the lists that `sheet` allows
abbrev pub Rival : List ℕ → List ℕ → List ℕ → Type 0
Rival net sheet other = Accepted net other × SameLists (said net other) (said net sheet) 0 0

-- ---- all of it; V, K and the words of the form are those that a call of the minimal form wrote

pub record Shortest : Type 0 where
  -- no accepted schedule with the same lists has fewer nodes, fewer entries or fewer words: §11.10
  pub nodes : (net sheet other : List ℕ) → Accepted net sheet → Rival net sheet other → (c : Form net sheet) → node_count (made c) ≤ node_count other
  pub entries : (net sheet other : List ℕ) → Accepted net sheet → Rival net sheet other → (c : Form net sheet) → entry_count (made c) ≤ entry_count other
  pub words : (net sheet other : List ℕ) → Accepted net sheet → Rival net sheet other → (c : Form net sheet) → size c ≤ length other
  -- those with as many nodes differ from the form only in the numbers of the nodes; and every schedule that differs so is one of them: §11.11
  pub exactly : (net sheet other : List ℕ) → Accepted net sheet → (c : Form net sheet)
      → (Rival net sheet other × (node_count other ≡ node_count (made c))) ↔ SameButNumbers net (made c) other
  -- other numbers change neither acceptance nor lists nor the form: §11.12
  pub numbers : (net sheet other : List ℕ) → Accepted net sheet → SameButNumbers net sheet other
      → AlwaysAccepted net other × SameLists (said net other) (said net sheet) 0 0 × (node_count other ≡ node_count sheet)
  pub form_kept : (net sheet other : List ℕ) → Accepted net sheet → SameButNumbers net sheet other → (c : Form net sheet) (d : Form net other) → made d ≡ made c
  -- the forms of two schedules with the same lists have equally many nodes
  pub alike : (net x y : List ℕ) → Accepted net x → Rival net x y → (c : Form net x) (d : Form net y) → node_count (made c) ≡ node_count (made d)
  -- a schedule with as many nodes as its own form differs from that form only in the numbers of the nodes
  pub own : (net sheet : List ℕ) → Accepted net sheet → (c : Form net sheet) → node_count sheet ≡ node_count (made c) → SameButNumbers net (made c) sheet
