-- A loop over the arcs of node n, whatever it makes of them: the arcs before entry i are passed, what entry i says, and the turn to the next.
use Rattle.scan.proofs.Basics.{ℕ, ◌+◌, ◌*◌, ◌-◌, ◌≤◌, ◌<◌, arith, ◌≡◌, sym, ◌∙◌, none, some, List, get_or}
use Rattle.net.specs.Net.{transition_count}
use Rattle.sequential.specs.Words.{entry_count, entry_key, entry_value}
use Rattle.reaction.specs.Call.{sheet_graph}
use Rattle.reaction.specs.Words.{ShapePasses}
use Rattle.reaction.specs.Known.{Passed}
use Rattle.react.specs.Rows.{IsNode, ArcOf, Mapped}
use Rattle.react.proofs.ArcRows.{whole, is-entry, key-low, key-high, arc-at, Walked, walk_start, walk_end, walk-reach, walk-gap, walk_more}

pub record Walks (net sheet starts : List ℕ) (n first i upto : ℕ) : Type 0 where
  pub mapped : Mapped net sheet starts
  pub node : IsNode sheet n
  pub first-is : first ≡ n * transition_count net
  pub walked : Walked net sheet starts n i upto

pub walks-start : {net sheet starts : List ℕ} {n first : ℕ} → Mapped net sheet starts → IsNode sheet n → first ≡ n * transition_count net → Walks net sheet starts n first (get_or starts n 0) 0
walks-start m l f = record { mapped = m; node = l; first-is = f; walked = walk_start m l }

-- the transitions whose durations are told are those of the net
pub told_of : {net sheet words : List ℕ} {transitions : ℕ} → Passed net sheet words → ShapePasses words transitions → transitions ≡ transition_count net
told_of p s = sym s.same ∙ p.durations_pass.shape.same

module _ {net sheet starts : List ℕ} {n first i upto : ℕ} (w : Walks net sheet starts n first i upto) where
  -- behind the last entry no transition has an arc
  pub none-behind : get_or starts (n + 1) 0 ≤ i → (v : ℕ) → upto ≤ v → (sheet_graph net sheet).arc n v ≡ none
  none-behind l v a = walk_end w.mapped w.node w.walked l v a

  module _ (k : i < get_or starts (n + 1) 0) where
    here : ArcOf starts n i
    here = record { begun = w.walked.begun; ends = k }

    pub entry-there : i < entry_count sheet
    entry-there = is-entry w.mapped w.node here

    pub first-low : first ≤ entry_key sheet i
    first-low = omega (arith, key-low w.mapped w.node here)

    module _ {t : ℕ} (e : t ≡ entry_key sheet i - first) where
      key-is : entry_key sheet i ≡ n * transition_count net + t
      key-is = omega (arith, first-low)

      pub within : t < transition_count net
      within = omega (arith, key-high w.mapped w.node here, key-is)

      -- from where the loop is to t no other transition has an arc
      pub reaches : upto ≤ t
      reaches = walk-reach w.mapped w.node w.walked here t key-is

      pub none_between : (v : ℕ) → upto ≤ v → v < t → (sheet_graph net sheet).arc n v ≡ none
      none_between = walk-gap w.mapped w.node w.walked here t key-is

      pub walks_more : Walks net sheet starts n first (i + 1) (t + 1)
      walks_more = record {
        mapped = w.mapped;
        node = w.node;
        first-is = w.first-is;
        walked = walk_more w.mapped w.node w.walked here t key-is;
      }

      module _ {x : ℕ} (q : x ≡ entry_value sheet i) where
        pub arc : (sheet_graph net sheet).arc n t ≡ some x
        arc = rw q (arc-at w.mapped w.node here t key-is)

        pub target : IsNode sheet x
        target = (whole w.mapped).lands n t x w.node arc
