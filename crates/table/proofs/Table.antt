-- Keyed words whose keys rise: at most one entry has a key, each is found at its key, and a key that no entry has is absent.
use Rattle.scan.proofs.Basics.{ℕ, suc, ◌<◌, add-one, arith, ◌≡◌, eqb, Option, none, some, List}
use native.Mathlib.Decide.{le_ind, dec_lt}
use Rattle.scan.specs.Scan.{when}
use Rattle.scan.proofs.Tests.{eqb-true, eqb-false, eq-eqb, ne_eqb}
use Rattle.scan.proofs.First.{when-some, when-none, when-hit, when-miss, first-at, first-all, first-hit, first-empty}
use Rattle.table.specs.Table.{key_at, entry_of, Rising}

module _ (words : List ℕ) (offset : ℕ) where
  abbrev key : ℕ → ℕ
  key = key_at words offset

  -- index i where its entry has the key k
  abbrev has : ℕ → ℕ → Option ℕ
  has k i = when (eqb (key i) k) i

  -- ---- an entry that is found, whatever the keys

  pub entry-some : (entries k i : ℕ) → entry_of words offset entries k ≡ some i → (i < entries) × (key i ≡ k)
  unfolding entry_of
  entry-some entries k i e =
      let (j, l, h, b) = first-at (has k) entries i e in
      let (t, q) = when-some (eqb (key j) k) j i h in
      (omega arith, rw (← q) (eqb-true (key j) k t))

  pub entry-none : (entries k : ℕ) → entry_of words offset entries k ≡ none → (i : ℕ) → i < entries → key i ≡ k → ⊥
  unfolding entry_of
  entry-none entries k e i l = eqb-false (key i) k (when-none (eqb (key i) k) i (first-all (has k) entries e i l))

  -- a key that no entry has is absent
  pub entry_absent : (entries k : ℕ) → ((i : ℕ) → i < entries → key i ≡ k → ⊥) → entry_of words offset entries k ≡ none
  unfolding entry_of
  entry_absent entries k h = first-empty (has k) entries (λ i l. when-miss (eqb (key i) k) i (ne_eqb (key i) k (h i l)))

  -- ---- keys that rise

  module _ (entries : ℕ) (r : Rising words offset entries) where
    pub rising : (i j : ℕ) → i < j → j < entries → key i < key j
    rising i =
        le_ind (λ (j : ℕ). j < entries → key i < key j) (λ l. rw add-one at (r.above i (omega arith)))
        (λ j l h m. let a : key i < key j = h (omega arith) in let b : key j < key (suc j) = rw add-one at (r.above j (omega arith)) in omega arith)

    -- at most one entry has a key
    pub entry-unique : (i j : ℕ) → i < entries → j < entries → key i ≡ key j → i ≡ j
    entry-unique i j l m e =
        elim (dec_lt i j) [
          | yes h ↦ absurd (let a = rising i j h m in omega arith)
          | no h ↦ elim (dec_lt j i) [ yes g ↦ absurd (let a = rising j i g l in omega arith) | no g ↦ omega arith ]
        ]

    -- an entry is found at its key
    pub entry_at : (i k : ℕ) → i < entries → key i ≡ k → entry_of words offset entries k ≡ some i
    unfolding entry_of
    entry_at i k l e =
        first-hit (has k) i i
        (first-empty (has k) i (λ j m. when-miss (eqb (key j) k) j (ne_eqb (key j) k (λ q. let a = rising j i m l in omega arith))))
        (when-hit (eqb (key i) k) i (eq-eqb (key i) k e)) entries l
