-- 26 on a net that passes 1 to 4: what the rows of starts and of capacities say of a place.
use Rattle.refusal.specs.declared.Reason.TheVariants.{StartOverCapacity}
use Rattle.scan.proofs.Basics.{ℕ, ◌+◌, ◌-◌, ◌*◌, ◌≤◌, ◌<◌, arith, ◌≡◌, refl, sym, ap, ◌∙◌, true, not, leb, none, option_get_or, List, length, get_or, replicate}
use lib.ListN.{get_or-replicate}
use Rattle.scan.specs.Scan.{first, when}
use Rattle.scan.proofs.Tests.{by_test}
use Rattle.scan.proofs.First.{first-empty, when-miss}
use Rattle.scan.proofs.Tabulate.{tabulate-at}
use Rattle.refusal.specs.Refusal.{refusal}
use Rattle.refusal.specs.Finding.{found_at, line_finds}
use Rattle.refusal.specs.declared.Position.TheVariants.{Place}
use Rattle.table.specs.Bisection.{lower_bound}
use Rattle.table.specs.Row.{walk, run_row, value_row}
use Rattle.net.specs.Net.{place_count, transition_count, weight_count, start, capacity}
use Rattle.net.specs.Known.{EntriesPass}
use Rattle.net.specs.Check.{overfull_fault}
use Rattle.net.specs.Accessors.{word_allows, shaped, row_weights, row_or_zeros, start_row_reply, capacity_row_reply}
use Rattle.net.proofs.Accessors.{word-allows, capacity-range, accessors-right}

module _ {net : List ℕ} (e : EntriesPass net) {starts capacities : List ℕ} (s : starts ≡ row_or_zeros net true (2 * transition_count net))
    (c : capacities ≡ row_or_zeros net true (2 * transition_count net + 1)) where
  pub overfull-told : (p : ℕ) → p < place_count net → overfull_fault net p ≡ when (not (word_allows (get_or capacities p 0) (get_or starts p 0))) (refusal StartOverCapacity (Place p))
  unfolding overfull_fault line_finds found_at start_row_reply capacity_row_reply
  overfull-told p l =
      let k = e.shape.sizes.few_places in
      let r = accessors-right net e in
      let a : get_or starts p 0 ≡ start net p = ap (λ (x : List ℕ). get_or x p 0) (s ∙ r.starts_row) ∙ tabulate-at (start net) 0 32 p (omega arith) in
      let b : get_or capacities p 0 ≡ option_get_or (capacity net p) 0
      = ap (λ (x : List ℕ). get_or x p 0) (c ∙ r.capacities_row) ∙ tabulate-at (λ q. option_get_or (capacity net q) 0) 0 32 p (omega arith) in
      rw (a, b, word-allows (capacity net p) (λ c h. (capacity-range net e p c h).0) (start net p))

-- no key lies in the row of capacities: no place has one
module _ {net : List ℕ} (e : EntriesPass net) (start : ℕ) (q : start ≡ lower_bound net 3 (weight_count net) ((2 * transition_count net + 1) * place_count net))
    (past : weight_count net ≤ start) where
  abbrev key : ℕ
  key = (2 * transition_count net + 1) * place_count net

  none-met : (told : ℕ → ℕ) → run_row net 3 (weight_count net) key (place_count net) told ≡ replicate 32 0
  unfolding run_row walk
  none-met told = let z : weight_count net - lower_bound net 3 (weight_count net) key ≡ 0 = omega (arith, q, past) in rw z

  row-empty : value_row net 3 (weight_count net) key (place_count net) ≡ replicate 32 0
  unfolding value_row
  row-empty = by_test (leb (3 + 2 * weight_count net) (length net)) (λ h. rw h (none-met _)) (λ h. rw h)

  no-capacity : row_or_zeros net true (2 * transition_count net + 1) ≡ replicate 32 0
  unfolding row_or_zeros row_weights
  no-capacity = by_test (shaped net) (λ h. rw h row-empty) (λ h. rw h)

  pub unlimited-told : first (overfull_fault net) (place_count net) ≡ none
  unfolding word_allows
  unlimited-told =
      first-empty _ _ (λ p l. let k = e.shape.sizes.few_places in
      overfull-told e {starts = row_or_zeros net true (2 * transition_count net)} {capacities = replicate 32 0} refl (sym no-capacity) p l
      ∙ rw (get_or-replicate {A = ℕ} 32 p 0 0 (omega arith)) (when-miss _ _ refl))
