-- The first finding of a scan: what each turn of a loop shows, what a loop that runs out shows, what one left early shows.
use Rattle.scan.proofs.Basics.{ℕ, zero, suc, ◌+◌, ◌≤◌, ◌<◌, add-one, arith, ◌≡◌, refl, ◌⊎◌, inl, inr, ⊎_elim, Bool, true, false, Option, none, some, option_map}
use native.Mathlib.Decide.{le_ind}
use Rattle.scan.specs.Scan.{or_else, when, found, first}
use Rattle.scan.proofs.Tests.{lt-suc-cases}

module _ {A : Type 0} where
  pub none-some {ℓ} : {C : Type ℓ} (o : Option A) (a : A) → o ≡ none → o ≡ some a → C
  none-some o a p q = let z : ◌≡◌ {A = ℕ} 0 1 = cc in absurd (omega arith)

  pub found_map : {B : Type 0} (f : A → B) (o : Option A) → found (option_map f o) ≡ found o
  unfolding found
  found_map f none = refl
  found_map f (some a) = refl

  -- ---- two findings

  pub or_else-left : (a b : Option A) → or_else a b ≡ none → a ≡ none
  unfolding or_else
  or_else-left none b h = refl
  or_else-left (some a) b h = h

  pub or_else-right : (a b : Option A) → or_else a b ≡ none → b ≡ none
  unfolding or_else
  or_else-right none b h = h
  or_else-right (some a) b h = cc

  pub or_else-next : (a b : Option A) → a ≡ none → or_else a b ≡ b
  unfolding or_else
  or_else-next a b h = rw h

  pub or_else-hit : (a b : Option A) (x : A) → a ≡ some x → or_else a b ≡ some x
  unfolding or_else
  or_else-hit a b x h = rw h

  -- a finding comes from the first, or from the second after none of the first
  pub or_else-cases : (a b : Option A) (x : A) → or_else a b ≡ some x → (a ≡ some x) ⊎ ((a ≡ none) × (b ≡ some x))
  unfolding or_else
  or_else-cases none b x h = inr (refl, h)
  or_else-cases (some a) b x h = inl h

  pub or_else-assoc : (a b c : Option A) → or_else (or_else a b) c ≡ or_else a (or_else b c)
  unfolding or_else
  or_else-assoc none b c = refl
  or_else-assoc (some x) b c = refl

  -- ---- a finding by a test

  pub when-hit : (b : Bool) (a : A) → b ≡ true → when b a ≡ some a
  unfolding when
  when-hit b a h = rw h

  pub when-miss : (b : Bool) (a : A) → b ≡ false → when b a ≡ none
  unfolding when
  when-miss b a h = rw h

  pub when-none : (b : Bool) (a : A) → when b a ≡ none → b ≡ false
  unfolding when
  when-none false a h = refl
  when-none true a h = cc

  pub when-some : (b : Bool) (a x : A) → when b a ≡ some x → (b ≡ true) × (a ≡ x)
  unfolding when
  when-some true a x h = (refl, cc)
  when-some false a x h = none-some none x refl h

  pub found_none : (o : Option A) → found o ≡ false → o ≡ none
  unfolding found
  found_none none h = refl
  found_none (some a) h = cc

  pub found_some : (o : Option A) → found o ≡ true → (a : A) × (o ≡ some a)
  unfolding found
  found_some none h = absurd (let z : ◌≡◌ {A = ℕ} 0 1 = cc in omega arith)
  found_some (some a) h = (a, refl)

  -- ---- the turns of a loop

  pub first-none : (f : ℕ → Option A) → first f 0 ≡ none
  unfolding first
  first-none f = refl

  -- a scan of one index
  pub first_one : (f : ℕ → Option A) → first f 1 ≡ f 0
  unfolding first or_else
  first_one f = refl

  -- a turn that finds nothing
  pub first_more : (f : ℕ → Option A) (i : ℕ) → first f i ≡ none → f i ≡ none → first f (i + 1) ≡ none
  unfolding first or_else
  first_more f i h e = rw (add-one, h) e

  -- once found, it stays
  first-keep : (f : ℕ → Option A) (i : ℕ) (a : A) → first f i ≡ some a → (n : ℕ) → i ≤ n → first f n ≡ some a
  unfolding first or_else
  first-keep f i a h = le_ind (λ (n : ℕ). first f n ≡ some a) h (λ m l e. rw e)

  -- a turn at which the loop is left
  pub first-hit : (f : ℕ → Option A) (i : ℕ) (a : A) → first f i ≡ none → f i ≡ some a → (n : ℕ) → i < n → first f n ≡ some a
  unfolding first or_else
  first-hit f i a h e n l = first-keep f (suc i) a (rw h e) n l

  -- ---- what a scan says of each index

  pub first-all : (f : ℕ → Option A) (n : ℕ) → first f n ≡ none → (i : ℕ) → i < n → f i ≡ none
  unfolding first
  first-all f zero h i l = absurd (omega arith)
  first-all f (suc n) h i l =
      ⊎_elim (λ e. rw e (or_else-right (first f n) (f n) h)) (λ m. first-all f n (or_else-left (first f n) (f n) h) i m) (lt-suc-cases l)

  pub first-empty : (f : ℕ → Option A) (n : ℕ) → ((i : ℕ) → i < n → f i ≡ none) → first f n ≡ none
  unfolding first or_else
  first-empty f zero h = refl
  first-empty f (suc n) h = rw (first-empty f n (λ i l. h i (omega arith))) (h n (omega arith))

  -- the first finding stands at an index with none before it
  pub first-at : (f : ℕ → Option A) (n : ℕ) (a : A) → first f n ≡ some a → (i : ℕ) × (i < n) × (f i ≡ some a) × ((j : ℕ) → j < i → f j ≡ none)
  unfolding first
  first-at f zero a h = none-some none a refl h
  first-at f (suc n) a h =
      ⊎_elim (λ p. let (i, l, e, b) = first-at f n a p in (i, omega arith, e, b)) (λ p. (n, omega arith, p.1, first-all f n p.0))
      (or_else-cases (first f n) (f n) a h)

  pub first-ext : (f g : ℕ → Option A) (n : ℕ) → ((i : ℕ) → i < n → f i ≡ g i) → first f n ≡ first g n
  unfolding first
  first-ext f g zero h = refl
  first-ext f g (suc n) h = cc (h n (omega arith), first-ext f g n (λ i l. h i (omega arith)))
