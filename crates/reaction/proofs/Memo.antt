-- The steps of a recursion that keeps what it has found: a node read, begun, closed, and the measure that falls.
use Rattle.scan.proofs.Basics.{ℕ, ◌+◌, ◌≤◌, ◌<◌, arith, ◌≡◌, refl, sym, ◌∙◌, eqb, List, length, get_or, set, length-set, get_or-set_same, get_or-set_other}
use borrow.Author.Tests.{eqb-true, eqb-false, eq-eqb}
use Rattle.scan.proofs.Tests.{by_test}
use Rattle.scan.proofs.Count.{count-mono, count-strict}
use Rattle.reaction.specs.Memo.{is_unvisited, unvisited, Told, Noted, After}

-- the two cases of a stored word
set_cases {ℓ} : {C : Type ℓ} (l : List ℕ) (i v j : ℕ) → i < length l
    → (j ≡ i → get_or (set l i v) j 0 ≡ v → C) → ((j ≡ i → ⊥) → get_or (set l i v) j 0 ≡ get_or l j 0 → C) → C
set_cases l i v j k f g =
    by_test (eqb j i) (λ q. let z = eqb-true j i q in f z (rw z (get_or-set_same l i v 0 k)))
    (λ q. let z = eqb-false j i q in g z (get_or-set_other l i j v 0 z))

-- ---- the measure

pub unvisited-falls : (memo : List ℕ) (n : ℕ) → n < 128 → n < length memo → get_or memo n 0 ≡ 0 → unvisited (set memo n 1) < unvisited memo
unfolding unvisited is_unvisited
unvisited-falls memo n l k e =
    count-strict (is_unvisited (set memo n 1)) (is_unvisited memo) 128 n
    (λ i j h. set_cases memo n 1 i k (λ p q. let z = eqb-true (get_or (set memo n 1) i 0) 0 h in absurd (omega arith)) (λ p q. rw (← q) h))
    l (rw (get_or-set_same memo n 1 0 k)) (eq-eqb (get_or memo n 0) 0 e)

module _ (value depth : ℕ → ℕ) (nodes : ℕ) where
  pub unvisited-after : (old new : List ℕ) → After value depth nodes old new → unvisited new ≤ unvisited old
  unfolding unvisited is_unvisited
  unvisited-after old new a =
      count-mono (is_unvisited new) (is_unvisited old) 128
      (λ i l h. by_test (eqb (get_or old i 0) 0) (λ q. q)
      (λ q. let z = eqb-false (get_or old i 0) 0 q in let y = eqb-true (get_or new i 0) 0 h in absurd (omega (arith, a.kept i (omega arith)))))

  -- ---- what is noted

  -- a node that is asked for below the level and has a word has its value there: it cannot be one that is begun
  pub noted-hit : (level n : ℕ) (memo : List ℕ) → Noted value depth nodes level memo → depth n < level → n < nodes → 1 ≤ get_or memo n 0 → get_or memo n 0 ≡ value n + 2
  noted-hit level n memo h l k e =
      by_test (eqb (get_or memo n 0) 1) (λ q. let z = h.above n k (eqb-true (get_or memo n 0) 1 q) in absurd (omega arith))
      (λ q. let z = eqb-false (get_or memo n 0) 1 q in h.told n k (omega arith))

  -- a node is begun: from here on the level is its own
  pub noted-begun : (level n : ℕ) (memo : List ℕ) → Noted value depth nodes level memo → depth n < level → n < length memo
      → Noted value depth nodes (depth n) (set memo n 1)
  noted-begun level n memo h l k = record {
    told = λ m j e. set_cases memo n 1 m k (λ p q. absurd (omega arith)) (λ p q. q ∙ h.told m j (omega arith));
    above = λ m j e. set_cases memo n 1 m k (λ p q. rw p (omega arith)) (λ p q. let z = h.above m j (sym q ∙ e) in omega arith);
  }

  -- down an arc, to a node of less depth
  pub noted-lower : (level lower : ℕ) (memo : List ℕ) → Noted value depth nodes level memo → lower ≤ level → Noted value depth nodes lower memo
  noted-lower level lower memo h l = record { told = h.told; above = λ m j e. let z = h.above m j e in omega arith }

  -- and back up
  pub noted-after : (level : ℕ) (old new : List ℕ) → Noted value depth nodes level old → After value depth nodes old new → Noted value depth nodes level new
  noted-after level old new h a = record { told = a.told; above = λ m j e. h.above m j (a.begun m j e) }

  -- ---- what a call leaves

  pub after_none : (memo : List ℕ) → Told value depth nodes memo → After value depth nodes memo memo
  after_none memo h = record { size = refl; told = h; begun = λ m j e. e; kept = λ m e. refl }

  pub after-trans : (a b c : List ℕ) → After value depth nodes a b → After value depth nodes b c → After value depth nodes a c
  after-trans a b c p q = record {
    size = q.size ∙ p.size;
    told = q.told;
    begun = λ m j e. p.begun m j (q.begun m j e);
    kept = λ m e. let z = p.kept m e in q.kept m (omega arith) ∙ z;
  }

  -- a node that was not visited is begun, its arcs are gone through, and its value is stored
  pub after-closed : (n : ℕ) (memo new : List ℕ) → n < nodes → n < length memo → get_or memo n 0 ≡ 0
      → After value depth nodes (set memo n 1) new → After value depth nodes memo (set new n (value n + 2))
  after-closed n memo new l k e a = record {
    size = length-set new n (value n + 2) ∙ a.size ∙ length-set memo n 1;
    told = λ m j h. set_cases new n (value n + 2) m wide (λ p q. rw p (get_or-set_same new n (value n + 2) 0 wide)) (λ p q. q ∙ a.told m j (rw q at h));
    begun = λ m j h. set_cases new n (value n + 2) m wide (λ p q. absurd (omega arith))
        (λ p q. sym (get_or-set_other memo n m 1 0 p) ∙ a.begun m j (sym q ∙ h));
    kept = λ m h. set_cases new n (value n + 2) m wide (λ p q. absurd (clash m p h))
        (λ p q. let z = get_or-set_other memo n m 1 0 p in q ∙ a.kept m (rw z h) ∙ z);
  }
    where
      wide : n < length new
      wide = let z = a.size in let y = length-set memo n 1 in omega arith

      clash : (m : ℕ) → m ≡ n → 1 ≤ get_or memo m 0 → ⊥
      clash m p h = let z : get_or memo m 0 ≡ 0 = rw p e in omega arith
