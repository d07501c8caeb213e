-- 3 and 4: the keys and weights of a net. Its keys rise, so each weight is found at its key.
use Rattle.scan.proofs.Basics.{ℕ, ◌+◌, ◌≤◌, arith, ◌≡◌, refl, false, eqb, Option, none, some, List, length}
use Rattle.scan.proofs.Tests.{ltb-false, le-ltb, eqb-false, ne_eqb, or-none-left, or-none-right}
use Rattle.scan.proofs.First.{or_else-left, or_else-right, when-none, first-all}
use Rattle.table.specs.Table.{Rising, entry_of}
use Rattle.table.proofs.Table.{entry-some}
use Rattle.refusal.specs.Limits.{most_count}
use Rattle.net.specs.Net.{weight_count, entry_weight, net_key_limit, weight_at}
use Rattle.table.proofs.Keys.{key-passes, keys-rise}
use Rattle.refusal.specs.Finding.{found_at, line_finds}
use Rattle.net.specs.Checks.{WeightPasses}
use Rattle.net.specs.Known.{EntriesPass}
use Rattle.net.specs.Check.{weight_fails, shape_fault, entry_fault}
use Rattle.net.proofs.Shape.{shape-out}
use Rattle.scan.specs.Scan.{found_or, first}

pub weight-out : (net : List ℕ) (i : ℕ) → weight_fails (entry_weight net i) ≡ false → WeightPasses net i
unfolding weight_fails
weight-out net i h = record {
  some = omega (arith, eqb-false (entry_weight net i) 0 (or-none-left (eqb (entry_weight net i) 0) _ h));
  most = ltb-false _ _ (or-none-right (eqb (entry_weight net i) 0) _ h);
}

pub weight-in : (net : List ℕ) (i : ℕ) → WeightPasses net i → weight_fails (entry_weight net i) ≡ false
unfolding weight_fails
weight-in net i w =
    let a = w.some in
    rw (ne_eqb (entry_weight net i) 0 (λ e. omega arith), le-ltb most_count (entry_weight net i) w.most)

pub entries-out : (net : List ℕ) → shape_fault net ≡ none → first (entry_fault net) (weight_count net) ≡ none → EntriesPass net
unfolding entry_fault line_finds found_at
entries-out net s h = record {
  shape = shape-out net s;
  each = λ i l. let e = first-all _ _ h i l in
      record { key = (key-passes net 3 (net_key_limit net) i).0 (when-none _ _ (or_else-left _ _ e)); weight = weight-out net i (when-none _ _ (or_else-right _ _ e)) };
}

pub entries-rise : (net : List ℕ) → EntriesPass net → Rising net 3 (weight_count net)
entries-rise net e = keys-rise net 3 (net_key_limit net) (weight_count net) (λ i l. (e.each i l).key)

pub entries_fit : (net : List ℕ) → EntriesPass net → 3 + weight_count net ≤ length net
entries_fit net e = omega (arith, e.shape.whole)

-- a weight is at most the limit, absent ones too
pub weight-small : (net : List ℕ) → EntriesPass net → (key : ℕ) → weight_at net key ≤ most_count
unfolding weight_at
weight-small net e key = go (entry_of net 3 (weight_count net) key) refl
  where
    go : (o : Option ℕ) → entry_of net 3 (weight_count net) key ≡ o → found_or 0 (entry_weight net) o ≤ most_count
    go none h = omega arith
    go (some i) h = (e.each i (entry-some net 3 (weight_count net) key i h).0).weight.most
