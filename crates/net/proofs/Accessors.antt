-- On a net that passes 1 to 4 the weight that bisection finds is the weight at the key, for one weight and for a whole row; the same for capacities.
use Rattle.std.specs.Prelude.{Err, Ok, Some}
use Rattle.refusal.specs.Refusal.{Verdict}
use Rattle.scan.proofs.Basics.{ℕ, zero, suc, ◌+◌, ◌*◌, ◌≤◌, arith, ◌≡◌, refl, sym, ap, ◌∙◌, Bool, true, false, cond, ◌&&◌, ltb, Option, none, some, option_map, option_get_or, List, replicate}
use lib.ListN.{get_or-replicate}
use Rattle.scan.proofs.Tests.{ne_eqb}
use Rattle.scan.specs.Scan.{found, found_or, tabulate}
use Rattle.scan.proofs.First.{none-some}
use Rattle.scan.proofs.Tabulate.{tabulate-is}
use Rattle.table.specs.Table.{entry_of}
use Rattle.table.specs.Bisection.{found_of}
use Rattle.table.proofs.Table.{entry-some}
use Rattle.table.proofs.Bisection.{look_up_lem}
use Rattle.table.proofs.Row.{value-row-is}
use Rattle.refusal.specs.Limits.{most_count}
use Rattle.refusal.specs.Verdict.{verdict_of}
use Rattle.refusal.specs.declared.Refusal.{Refusal}
use Rattle.refusal.proofs.Verdicts.{answer-none, answer-some}
use Rattle.net.specs.Net.{place_count, transition_count, weight_count, weight_at, taken, put, start, capacity, entry_weight}
use Rattle.net.specs.Check.{within, shape_fault}
use Rattle.net.specs.Accessors.{capacity_told, capacity_of_word, word_allows, weight_found, weight_reply, shaped, row_reply, row_weights, weight_or_zero, row_or_zeros}
use Rattle.net.specs.Accessors.{taken_reply, put_reply, start_reply, capacity_reply, taken_row_reply, put_row_reply, start_row_reply, capacity_row_reply}
use Rattle.net.specs.Demands.{AccessorsRight}
use Rattle.net.proofs.Shape.{shape-in}
use Rattle.net.specs.Known.{EntriesPass}
use Rattle.net.proofs.Entries.{entries-rise, entries_fit}

pub shaped-true : (net : List ℕ) {v : Verdict} → v ≡ verdict_of (shape_fault net) → v ≡ Ok tt → shaped net ≡ true
unfolding shaped found
shaped-true net e h = rw (answer-none (shape_fault net) (sym e ∙ h))

pub shaped-false : (net : List ℕ) {v : Verdict} {r : Refusal} → v ≡ verdict_of (shape_fault net) → v ≡ Err r → shaped net ≡ false
unfolding shaped found
shaped-false net {r = r} e h = rw (answer-some (shape_fault net) r (sym e ∙ h))

found-weight : (net : List ℕ) (o : Option ℕ) → weight_found net (found_of o) ≡ found_or 0 (entry_weight net) o
found-weight net none = refl
found-weight net (some i) = refl

-- ---- words of the row of capacities, of which none is 0

pub word_some : (n : ℕ) → (n ≡ 0 → ⊥) → Some n ≡ capacity_of_word n
word_some zero h = absurd (h refl)
word_some (suc n) h = refl

word-told : (o : Option ℕ) → ((c : ℕ) → o ≡ some c → 1 ≤ c) → capacity_of_word (option_get_or o 0) ≡ capacity_told o
word-told none h = refl
word-told (some zero) h = let z = h 0 refl in absurd (omega arith)
word-told (some (suc c)) h = refl

pub allows-unlimited : (n : ℕ) → word_allows 0 n ≡ true
unfolding word_allows
allows-unlimited n = refl

pub word-allows : (o : Option ℕ) → ((c : ℕ) → o ≡ some c → 1 ≤ c) → (n : ℕ) → word_allows (option_get_or o 0) n ≡ within o n
unfolding word_allows
word-allows none h n = refl
word-allows (some c) h n = let z = h c refl in rw (ne_eqb c 0 (λ e. omega arith))

-- the word is the weight at the key
map-word : (net : List ℕ) (b : Bool) (o : Option ℕ) → option_get_or (cond b (option_map (entry_weight net) o) none) 0 ≡ cond b (found_or 0 (entry_weight net) o) 0
map-word net true none = refl
map-word net true (some i) = refl
map-word net false o = refl

capacity-word : (net : List ℕ) (p : ℕ) → option_get_or (capacity net p) 0 ≡ cond (ltb p (place_count net)) (weight_at net ((2 * transition_count net + 1) * place_count net + p)) 0
unfolding capacity weight_at
capacity-word net p = map-word net (ltb p (place_count net)) (entry_of net 3 (weight_count net) ((2 * transition_count net + 1) * place_count net + p))

-- ---- rows

module _ (net : List ℕ) (e : EntriesPass net) where
  is-shaped : shaped net ≡ true
  is-shaped = shaped-true net refl (ap verdict_of (shape-in net e.shape))

  weight-right : (key : ℕ) → weight_reply net key ≡ weight_at net key
  unfolding weight_reply weight_at
  weight-right key =
      ap (weight_found net) (look_up_lem net 3 (weight_count net) key (entries-rise net e) (entries_fit net e)) ∙ found-weight net (entry_of net 3 (weight_count net) key)

  in_row : (known : Bool) (row p : ℕ) → weight_or_zero net known row p ≡ cond (known && ltb p (place_count net)) (weight_at net (row * place_count net + p)) 0
  unfolding weight_or_zero row_reply
  in_row true row p = rw (is-shaped, weight-right (row * place_count net + p))
  in_row false row p = refl

  -- a row has the values of any function that is the weight at its keys
  row_is : (known : Bool) (row : ℕ) (f : ℕ → ℕ) → ((p : ℕ) → f p ≡ cond (known && ltb p (place_count net)) (weight_at net (row * place_count net + p)) 0)
      → row_or_zeros net known row ≡ tabulate f 32
  unfolding row_or_zeros row_weights weight_at entry_weight
  row_is true row f h =
      rw is-shaped (value-row-is net 3 (weight_count net) (row * place_count net) (place_count net) (entries-rise net e) (omega (arith, e.shape.whole)) f (λ p l. h p))
  row_is false row f h = tabulate-is f 0 32 (replicate 32 0) refl (λ p l. get_or-replicate {A = ℕ} 32 p 0 0 l ∙ sym (h p))

  -- a capacity is a weight: from 1 to the limit
  pub capacity-range : (p c : ℕ) → capacity net p ≡ some c → (1 ≤ c) × (c ≤ most_count)
  unfolding capacity
  capacity-range p c h = go (ltb p (place_count net)) (entry_of net 3 (weight_count net) key) refl h
    where
      key : ℕ
      key = (2 * transition_count net + 1) * place_count net + p

      go : (b : Bool) (o : Option ℕ) → entry_of net 3 (weight_count net) key ≡ o → cond b (option_map (entry_weight net) o) none ≡ some c → (1 ≤ c) × (c ≤ most_count)
      go true none k h = none-some none c refl h
      go true (some i) k h =
          let w = (e.each i (entry-some net 3 (weight_count net) key i k).0).weight in
          let q : entry_weight net i ≡ c = cc in
          (rw q at w.some, rw q at w.most)
      go false o k h = none-some none c refl h

  pub accessors-right : AccessorsRight net
  unfolding taken_reply put_reply start_reply capacity_reply taken_row_reply put_row_reply start_row_reply capacity_row_reply taken put start
  accessors-right = record {
    takes = λ t. in_row (ltb t (transition_count net)) t;
    puts = λ t. in_row (ltb t (transition_count net)) (transition_count net + t);
    starts = in_row true (2 * transition_count net);
    capacities = λ p.
        rw (in_row true (2 * transition_count net + 1) p, ← capacity-word net p) (word-told (capacity net p) (λ c h. (capacity-range p c h).0));
    takes_row = λ t. row_is (ltb t (transition_count net)) t (taken net t) (λ p. refl);
    puts_row = λ t. row_is (ltb t (transition_count net)) (transition_count net + t) (put net t) (λ p. refl);
    starts_row = row_is true (2 * transition_count net) (start net) (λ p. refl);
    capacities_row = row_is true (2 * transition_count net + 1) (λ p. option_get_or (capacity net p) 0) (capacity-word net);
  }
