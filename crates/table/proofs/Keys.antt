-- Keys in order: what the test of a key says, and that keys which all pass it rise.
use Rattle.scan.proofs.Basics.{ℕ, ◌+◌, ◌-◌, ◌≤◌, ◌<◌, arith, ◌≡◌, sym, ◌↔◌, false, ltb, leb, List, length}
use lib.ListN.{get_or-eq_default}
use Rattle.scan.proofs.Tests.{ltb-true, lt-ltb, leb-false, lt-leb, by_test, or-none-left, or-none-right}
use Rattle.table.specs.Table.{key_at, Rising, KeyPasses}
use Rattle.table.specs.Keys.{key_fails}

-- past the end of the words a key is 0
pub key-past : (words : List ℕ) (offset i : ℕ) → length words ≤ offset + i → 0 ≡ key_at words offset i
unfolding key_at
key-past words offset i h = sym (get_or-eq_default words 0 h)

module _ (words : List ℕ) (offset limit : ℕ) where
  abbrev key : ℕ → ℕ
  key = key_at words offset

  pub key-passes : (i : ℕ) → (key_fails words offset limit i ≡ false) ↔ KeyPasses words offset limit i
  unfolding key_fails
  key-passes i = (
    λ h. record {
      low = leb-false _ _ (or-none-left (leb limit (key i)) _ h);
      above = λ l. leb-false _ _ (rw (lt-ltb 0 i l) at (or-none-right (leb limit (key i)) _ h));
    },
    λ k. rw (lt-leb limit (key i) k.low) (by_test (ltb 0 i) (λ e. rw (e, lt-leb (key i) (key (i - 1)) (k.above (ltb-true 0 i e)))) (λ e. rw e)),
  )

  pub keys-rise : (entries : ℕ) → ((i : ℕ) → i < entries → KeyPasses words offset limit i) → Rising words offset entries
  keys-rise entries h = record { above = λ i l. let z : i + 1 - 1 ≡ i = omega arith in rw z at ((h (i + 1) l).above (omega arith)) }
