-- A transition is a source exactly if no key lies in its row; so it is enough to look where bisection for the start of the row ends.
use Rattle.scan.proofs.Basics.{ℕ, ◌+◌, ◌-◌, ◌*◌, ◌≤◌, ◌<◌, arith, ◌≡◌, sym, ap, ◌∙◌, true, false, leb, List}
use native.Mathlib.Decide.{dec_lt}
use Rattle.scan.proofs.Tests.{lt-ltb, le-leb, lt-leb, eq-eqb, ne_eqb}
use Rattle.scan.proofs.Every.{all_in, all-fails}
use Rattle.table.specs.Table.{key_at}
use Rattle.table.specs.Bisection.{lower_bound}
use Rattle.table.proofs.Table.{rising, entry_at, entry_absent}
use Rattle.table.proofs.Bisection.{LowerBound, lower-bound}
use Rattle.net.specs.Net.{place_count, transition_count, weight_count, entry_weight, weight_at, taken, takes_nothing, is_source}
use Rattle.net.specs.Known.{EntriesPass}
use Rattle.net.proofs.Entries.{entries-rise, entries_fit}
use Rattle.scan.specs.Scan.{found_or}

pub taken-within : (net : List ℕ) (t p : ℕ) → t < transition_count net → p < place_count net → taken net t p ≡ weight_at net (t * place_count net + p)
unfolding taken
taken-within net t p l m = rw (lt-ltb t (transition_count net) l, lt-ltb p (place_count net) m)

module _ (net : List ℕ) (e : EntriesPass net) (t : ℕ) (l : t < transition_count net) where
  abbrev key : ℕ → ℕ
  key = key_at net 3

  -- no key in the row
  empty-row : ((i : ℕ) → i < weight_count net → t * place_count net ≤ key i → key i < t * place_count net + place_count net → ⊥) → is_source net t ≡ true
  unfolding is_source takes_nothing weight_at
  empty-row h =
      all_in (takes_nothing net t) (place_count net) (λ p m. eq-eqb _ _ (taken-within net t p l m
      ∙ ap (found_or 0 (entry_weight net)) (entry_absent net 3 (weight_count net) (t * place_count net + p) (λ i k q. h i k (omega arith) (omega arith)))))

  -- a key in the row
  full-row : (i : ℕ) → i < weight_count net → t * place_count net ≤ key i → key i < t * place_count net + place_count net → is_source net t ≡ false
  unfolding is_source takes_nothing weight_at
  full-row i k a b =
      let p : ℕ = key i - t * place_count net in
      let m : p < place_count net = omega arith in
      let w = (e.each i k).weight.some in
      let q : taken net t p ≡ entry_weight net i = taken-within net t p l m
      ∙ ap (found_or 0 (entry_weight net)) (entry_at net 3 (weight_count net) (entries-rise net e) i (t * place_count net + p) k (omega arith)) in
      all-fails (takes_nothing net t) (place_count net) p m (ne_eqb (taken net t p) 0 (λ z. omega arith))

  bound : LowerBound net 3 (weight_count net) (t * place_count net) (lower_bound net 3 (weight_count net) (t * place_count net))
  bound = lower-bound net 3 (weight_count net) (t * place_count net) (entries-rise net e) (entries_fit net e)

  -- the search for the row's start ends behind the last entry
  pub source-past : (r : ℕ) → r ≡ lower_bound net 3 (weight_count net) (t * place_count net) → weight_count net ≤ r → true ≡ is_source net t
  source-past r q h = sym (empty-row (λ i k a b. let z = bound.below i (omega arith) in omega arith))

  -- it ends at an entry: a source if that lies past the row
  pub source-at : (r : ℕ) → r ≡ lower_bound net 3 (weight_count net) (t * place_count net) → r < weight_count net
      → leb (t * place_count net + place_count net) (key r) ≡ is_source net t
  source-at r q h =
      let b = rw (← q) at bound in
      elim (dec_lt (key r) (t * place_count net + place_count net)) [
        | yes z ↦ rw (lt-leb _ _ z) (sym (full-row r h (b.above r (omega arith) h) z))
        | no z ↦ rw (le-leb (t * place_count net + place_count net) (key r) (omega arith)) (sym (empty-row (λ i k a c. elim (dec_lt i r) [
          | yes y ↦ let x = b.below i y in omega arith
          | no y ↦ elim (dec_lt r i) [
            | yes y' ↦ let x = rising net 3 (weight_count net) (entries-rise net e) r i y' k in omega arith
            | no y' ↦ let x : i ≡ r = omega arith in let x' = ap key x in omega arith
          ]
        ])))
      ]
