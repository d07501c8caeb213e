-- Entries that all pass 3 and 4: keys that rise and end below the limit, and weights in their range.
use Rattle.scan.proofs.Basics.{ℕ, ◌+◌, ◌-◌, ◌<◌, arith, ◌≡◌, false, none, List, get_or}
use native.Mathlib.Decide.{dec_lt}
use Rattle.scan.specs.Scan.{or_else, when, first}
use Rattle.scan.proofs.First.{first-empty}
use Rattle.table.specs.Table.{key_at, Rising}
use Rattle.table.specs.Keys.{key_fails}
use Rattle.table.proofs.Table.{rising}
use Rattle.table.proofs.Keys.{key-passes}
use Rattle.refusal.specs.Finding.{found_at, line_finds}
use Rattle.net.specs.Net.{weight_count, net_key_limit}
use Rattle.net.specs.Known.{WeightsPass}
use Rattle.net.specs.Check.{entry_fault}

module _ {net : List ℕ} (up : Rising net 3 (weight_count net)) (last : get_or net (2 + weight_count net) 0 < net_key_limit net) where
  greatest : (i : ℕ) → i + 1 ≡ weight_count net → key_at net 3 i < net_key_limit net
  unfolding key_at
  greatest i e = let q : 3 + i ≡ 2 + weight_count net = omega arith in rw q last

  key-low : (i : ℕ) → i < weight_count net → key_at net 3 i < net_key_limit net
  key-low i l =
      let top = weight_count net - 1 in
      elim (dec_lt i top) [
        | yes m ↦ omega (arith, rising net 3 (weight_count net) up i top m (omega arith), greatest top (omega arith))
        | no m ↦ greatest i (omega arith)
      ]

  key_right : (i : ℕ) → i < weight_count net → key_fails net 3 (net_key_limit net) i ≡ false
  key_right i l = (key-passes net 3 (net_key_limit net) i).1 (record {
    low = key-low i l;
    above = λ h. let q : i - 1 + 1 ≡ i = omega arith in rw q at (up.above (i - 1) (omega arith));
  })

  pub all_pass : WeightsPass net (weight_count net) → first (entry_fault net) (weight_count net) ≡ none
  unfolding entry_fault line_finds found_at or_else when
  all_pass w = first-empty _ _ (λ i l. rw (key_right i l, w.each i l))
