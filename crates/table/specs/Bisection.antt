-- The look-up by bisection, for any words: what the code answers whether the keys rise or not.
-- `look_up_lem` of proofs/Bisection shows that it is the entry with the key if the keys rise.
use Rattle.std.specs.Prelude as prelude
use Rattle.std.specs.Prelude.{ℕ, zero, suc, ◌+◌, ◌-◌, ◌/◌, List, Bool, cond, ◌&&◌, length, ltb, leb, eqb, None, Some}
use Rattle.std.proofs.Math.Option.{Option, none, some}
use Rattle.table.specs.Table.{key_at}

abbrev pub middle : ℕ → ℕ → ℕ
middle low high = low + (high - low) / 2

-- an entry that may be missing, as the code answers it
abbrev pub Found : Type 0
Found = prelude.Option ℕ

-- where halving between low and high ends; it goes up past each middle that passes, and makes at most the given number of turns
unfoldable pub bisect : (ℕ → Bool) → ℕ → ℕ → ℕ → ℕ
bisect f zero low high = low
bisect f (suc turns) low high =
    let up = bisect f turns (middle low high + 1) high in
    let down = bisect f turns low (middle low high) in
    cond (ltb low high) (cond (f (middle low high)) up down) low

module _ (words : List ℕ) (offset : ℕ) where
  unfoldable pub key_below : ℕ → ℕ → Bool
  key_below key i = ltb (key_at words offset i) key

  -- the result of bisection if the keys lie within the words, else the number of entries
  unfoldable pub lower_bound : ℕ → ℕ → ℕ
  lower_bound entries key = cond (leb (offset + entries) (length words)) (bisect (key_below key) entries 0 entries) entries

  unfoldable pub look_up : ℕ → ℕ → Found
  look_up entries key =
      let i = lower_bound entries key in
      cond (ltb i entries && eqb (key_at words offset i) key) (Some i) None

-- an entry that may be missing
abbrev pub found_of : Option ℕ → Found
found_of none = None
found_of (some i) = Some i
