-- Chains over the numbers below n: what `all`, `any`, `find` and `count` give is what the checks' vocabulary says.
use Rattle.scan.proofs.Basics.{ℕ, zero, suc, ◌+◌, ◌<◌, add-one, arith, ◌≡◌, refl, sym, ap, ◌∙◌, subst, ◌≤◌, get_or, Bool, true, false, ◌&&◌, ◌||◌, List, length}
use native.Mathlib.Nat.{add-zero}
use mathlib.Core.Bool.{and_assoc, or_assoc, or-false}
use Rattle.std.specs.Prelude.{Option, None, Some, MatchOption, ⊤}
use Rattle.std.specs.List.{list_all, list_any, find, filter, range_with_len}
use denote.Param.Members.{Mut}
use denote.Ref.{Bor}
use Rattle.std.specs.Fn.{Called, CalledAt}
use Rattle.std.specs.Option.{option_map}
use Rattle.std.specs.Iterator.{YieldsThen}
use Rattle.std.specs.declared.ops.Range.{Range}
use Rattle.std.specs.List.{FoldsTo}
use Rattle.std.proofs.iter.Yields.{nat_range_steps}
use Rattle.std.proofs.lemmas.Iterator.{YieldsList-from_range}
use Rattle.std.proofs.lemmas.Iterator.Search.{all_from_yields_List, any_from_yields_List, find_from_yields_List}
use Rattle.std.specs.Array.{IsFromFnResultFrom, IsFromFnResult}
use Rattle.plainly.specs.Marks.{is_marked, Marks}
use Rattle.scan.specs.Scan.{all, any, least, count, bit}
use Rattle.scan.proofs.Count.{count-more}
use Rattle.scan.proofs.Every.{all-next, any-in, any-more, any-none-yet}
use Rattle.scan.proofs.Least.{least-found}
use Rattle.scan.proofs.Tests.{and-true, by_test}

module _ (f : ℕ → Bool) where
  all-from : (a n : ℕ) → (all f a && list_all f (range_with_len a n)) ≡ all f (a + n)
  all-from a zero = rw add-zero (and-true (all f a))
  all-from a (suc n) =
      let e : a + 1 + n ≡ a + suc n = omega arith in
      sym (and_assoc (all f a) (f a) (list_all f (range_with_len (a + 1) n)))
      ∙ ap (λ (x : Bool). x && list_all f (range_with_len (a + 1) n)) (sym (all-next f a)) ∙ all-from (a + 1) n ∙ ap (all f) e

  -- an answer of `all`, over as many numbers as there are
  pub all-range : {r : Bool} (m n : ℕ) → r ≡ list_all f (range_with_len 0 m) → m ≡ n → r ≡ all f n
  unfolding all
  all-range m n e q = e ∙ all-from 0 m ∙ ap (all f) (let z : 0 + m ≡ n = omega arith in z)

  -- the same from the chain itself, whose closure computes f
  pub all-chain : {F : Type 0} {g : Mut F (ℕ × Unit {0}) Bool} (m n : ℕ) (u : Range ℕ) (h : F) (r : Bool)
      → (xs : List ℕ) × (o : Option ℕ) × (j : F) × YieldsThen nat_range_steps (record { start = 0; end = m }) xs o u × FoldsTo (λ p x q. Called g p (x, tt) true q) h xs j
      × MatchOption o (r ≡ true) (λ x. (r ≡ false) × ((k : F) × Called g j (x, tt) false k))
      → m ≡ n → ((x : ℕ) (b : Bool) (q : F) → Called g h (x, tt) b q → (q ≡ h) × (b ≡ f x)) → r ≡ all f n
  all-chain m n u h r ran q k = all-range m n (all_from_yields_List f u h r ran (YieldsList-from_range 0 m m refl (omega arith)) k) q

  any-next : (a : ℕ) → any f (a + 1) ≡ (any f a || f a)
  unfolding any
  any-next a = rw add-one

  any-from : (a n : ℕ) → (any f a || list_any f (range_with_len a n)) ≡ any f (a + n)
  any-from a zero = rw add-zero (or-false (any f a))
  any-from a (suc n) =
      let e : a + 1 + n ≡ a + suc n = omega arith in
      sym (or_assoc (any f a) (f a) (list_any f (range_with_len (a + 1) n)))
      ∙ ap (λ (x : Bool). x || list_any f (range_with_len (a + 1) n)) (sym (any-next a)) ∙ any-from (a + 1) n ∙ ap (any f) e

  -- an answer of `any`
  pub any-range : {r : Bool} (m n : ℕ) → r ≡ list_any f (range_with_len 0 m) → m ≡ n → r ≡ any f n
  unfolding any
  any-range m n e q = e ∙ any-from 0 m ∙ ap (any f) (let z : 0 + m ≡ n = omega arith in z)

  pub any-chain : {F : Type 0} {g : Mut F (ℕ × Unit {0}) Bool} (m n : ℕ) (u : Range ℕ) (h : F) (r : Bool)
      → (xs : List ℕ) × (o : Option ℕ) × (j : F) × YieldsThen nat_range_steps (record { start = 0; end = m }) xs o u × FoldsTo (λ p x q. Called g p (x, tt) false q) h xs j
      × MatchOption o (r ≡ false) (λ x. (r ≡ true) × ((k : F) × Called g j (x, tt) true k))
      → m ≡ n → ((x : ℕ) (b : Bool) (q : F) → Called g h (x, tt) b q → (q ≡ h) × (b ≡ f x)) → r ≡ any f n
  any-chain m n u h r ran q k = any-range m n (any_from_yields_List f u h r ran (YieldsList-from_range 0 m m refl (omega arith)) k) q

  abbrev Found : ℕ → Option ℕ → Type 0
  Found n r = MatchOption r (any f n ≡ false) (λ i. (any f n ≡ true) × (i ≡ least f n))

  find-from : (a n : ℕ) → any f a ≡ false → Found (a + n) (find f (range_with_len a n))
  find-from a zero h = rw add-zero h
  find-from a (suc n) h =
      by_test (f a) (λ e. let l : a < a + suc n = omega arith in rw e (any-in f (a + suc n) a l e, sym (least-found f (a + suc n) a h e l)))
      (λ e. let q : a + suc n ≡ a + 1 + n = omega arith in rw (e, q) (find-from (a + 1) n (any-more f a h e)))

  -- an answer of `find`
  pub find-range : {r : Option ℕ} (m n : ℕ) → r ≡ find f (range_with_len 0 m) → m ≡ n → Found n r
  find-range m n e q = let z : n ≡ 0 + m = omega arith in rw (e, z) (find-from 0 m (any-none-yet f))

  option-same : (r : Option ℕ) → option_map (λ x. x) r ≡ r
  option-same None = refl
  option-same (Some x) = refl

  pub find-chain : {F : Type 0} {g : Mut F (Bor ℕ × Unit {0}) Bool} (m n : ℕ) (u : Range ℕ) (h : F) (r : Option ℕ)
      → (xs : List ℕ) × (j : F) × YieldsThen nat_range_steps (record { start = 0; end = m }) xs r u × FoldsTo (λ p x q. CalledAt g p x false q) h xs j
      × MatchOption r ⊤ (λ x. (k : F) × CalledAt g j x true k)
      → m ≡ n → ((x : ℕ) (b : Bool) (q : F) → CalledAt g h x b q → (q ≡ h) × (b ≡ f x)) → Found n r
  find-chain m n u h r ran q k =
      find-range m n (sym (option-same r) ∙ find_from_yields_List f u h r ran (YieldsList-from_range 0 m m refl (omega arith)) k) q

  -- a table of f's values below v, which `from_fn` makes
  made-from : {F : Type 0} {g : Mut F (ℕ × Unit {0}) Bool} (h : F) (ys : List Bool) (v a n : ℕ) → IsFromFnResultFrom g h ys a n
      → ((x : ℕ) (b : Bool) (q : F) → x < v → Called g h (x, tt) b q → (q ≡ h) × (b ≡ f x)) → (k : ℕ) → k < n → a + k < v → get_or ys (a + k) false ≡ f (a + k)
  made-from h ys v a zero r p k l m = absurd (omega arith)
  made-from {F} {g} h ys v a (suc n) (q, y, e, c, rest) p zero l m = let z : a + 0 ≡ a = omega arith in rw z (e.1 false ∙ (p a y q (omega arith) c).1)
  made-from {F} {g} h ys v a (suc n) (q, y, e, c, rest) p (suc k) l m =
      let z : a + suc k ≡ a + 1 + k = omega arith in
      rw z (made-from h ys v (a + 1) n (subst (λ (s : F). IsFromFnResultFrom g s ys (a + 1) n) (p a y q (omega arith) c).0 rest) p k (omega arith) (omega arith))

  pub marks-made : {F : Type 0} {g : Mut F (ℕ × Unit {0}) Bool} (h : F) (ys : List Bool) (v : ℕ) → v ≤ 128 → IsFromFnResult g h ys 128
      → ((x : ℕ) (b : Bool) (q : F) → x < v → Called g h (x, tt) b q → (q ≡ h) × (b ≡ f x)) → Marks v ys f
  unfolding is_marked
  marks-made h ys v few r p k l = let z : 0 + k ≡ k = omega arith in rw z at (made-from h ys v 0 128 r.each p k (omega arith) (omega arith))

  count-from : (a n : ℕ) → count f a + length (filter f (range_with_len a n)) ≡ count f (a + n)
  unfolding bit
  count-from a zero = let e : a + 0 ≡ a = omega arith in rw e (omega arith)
  count-from a (suc n) =
      let h = count-from (a + 1) n in
      let c = count-more f a in
      let e : a + 1 + n ≡ a + suc n = omega arith in
      rw (← e) (by_test (f a) (λ q. next true q h c) (λ q. next false q h c))
    where
      next : (b : Bool) → f a ≡ b → count f (a + 1) + length (filter f (range_with_len (a + 1) n)) ≡ count f (a + 1 + n) → count f (a + 1) ≡ count f a + bit (f a)
          → count f a + length (filter f (range_with_len a (suc n))) ≡ count f (a + 1 + n)
      next true q h c = rw q (let c' = rw q at c in omega arith)
      next false q h c = rw q (let c' = rw q at c in omega arith)

  -- how many numbers pass
  pub count-range : {r : ℕ} (m n : ℕ) → r ≡ length (filter f (range_with_len 0 m)) → m ≡ n → r ≡ count f n
  unfolding count
  count-range m n e q =
      let z : 0 + m ≡ n = omega arith in
      let h = count-from 0 m in e ∙ (omega (arith, h)) ∙ ap (count f) z
