-- A run of rising keys gathered into words, and what a column has by its entry.
use Rattle.scan.proofs.Basics.{ℕ, zero, suc, ◌+◌, ◌-◌, ◌≤◌, ◌<◌, add-one, arith, ◌≡◌, refl, sym, ap, ◌∙◌, Bool, true, false, cond, ltb, Option, none, some, option_map, List, [], ◌∷◌}
use Rattle.scan.proofs.Basics.{length, length-append}
use mathlib.Core.List.{append-nil}
use Rattle.scan.specs.Scan.{when, found, found_or}
use Rattle.scan.proofs.Tests.{lt-ltb, le-ltb, by_test, by_less}
use Rattle.scan.proofs.First.{when-hit, when-miss}
use Rattle.table.specs.Table.{Rising}
use Rattle.table.proofs.Table.{entry-some}
use Rattle.table.proofs.Bisection.{LowerBound, lower-bound, lower-bound-entry}
use Rattle.sequential.specs.Words.{entry_count, entry_key, entry_value, entry_with_key}
use Rattle.encoding.specs.Encoding.{gather}
use Rattle.encoding.specs.Kept.{number_in}
use Rattle.minimize.specs.Agree.{has_key}
use Rattle.minimize.specs.Runs.{run_from, run_size, word_at}
use Rattle.minimize.proofs.Agree.{bound-hit, bound-miss}
use Rattle.minimize.proofs.Level.{same-bound}

-- ---- a run of keys

module _ {sheet : List ℕ} (up : Rising sheet 2 (entry_count sheet)) (fits : 2 + entry_count sheet ≤ length sheet) where
  pub bound : (key : ℕ) → LowerBound sheet 2 (entry_count sheet) key (run_from sheet key)
  unfolding run_from
  bound key = lower-bound sheet 2 (entry_count sheet) key up fits

  -- a later key is not found earlier
  pub runs-rise : (key width : ℕ) → run_from sheet key ≤ run_from sheet (key + width)
  runs-rise key width =
      let p = bound key in
      let q = bound (key + width) in
      by_less (run_from sheet (key + width)) (run_from sheet key)
      (λ l. let a = p.below (run_from sheet (key + width)) l in
      let b = q.above (run_from sheet (key + width)) (omega arith) (omega (arith, p.within)) in omega arith)
      (λ g. omega arith)

  module _ (f : ℕ → Option ℕ) (word : ℕ → ℕ) (key width : ℕ) (cell : (c : ℕ) → c < width → f c ≡ option_map word (entry_with_key sheet (key + c))) where
    column : (c : ℕ) → c < width → f c ≡ option_map word (cond (has_key sheet (run_from sheet (key + c)) (key + c)) (some (run_from sheet (key + c))) none)
    unfolding entry_with_key has_key
    column c l = cell c l ∙ ap (option_map word) (lower-bound-entry sheet 2 (entry_count sheet) (key + c) up (run_from sheet (key + c)) (bound (key + c)))

    -- a column more, with an entry or without
    module _ (c d : ℕ) (e : d ≡ key + (c + 1)) (l : c < width)
        (done : gather f c ≡ gather (word_at word (run_from sheet key)) (run_from sheet (key + c) - run_from sheet key)) where
      hit : has_key sheet (run_from sheet (key + c)) (key + c) ≡ true
          → gather f (suc c) ≡ gather (word_at word (run_from sheet key)) (run_from sheet d - run_from sheet key)
      unfolding gather word_at
      hit h =
          let q : run_from sheet d ≡ run_from sheet (key + c) + 1 = rw e (sym (same-bound sheet (key + (c + 1)) (bound-hit sheet up key c (bound (key + c)) h) (bound (key + (c + 1))))) in
          let r = runs-rise key c in
          let z : run_from sheet (key + c) + 1 - run_from sheet key ≡ suc (run_from sheet (key + c) - run_from sheet key) = omega arith in
          let w : run_from sheet key + (run_from sheet (key + c) - run_from sheet key) ≡ run_from sheet (key + c) = omega arith in
          rw (column c l, h, done, q, z, w) refl

      miss : has_key sheet (run_from sheet (key + c)) (key + c) ≡ false
          → gather f (suc c) ≡ gather (word_at word (run_from sheet key)) (run_from sheet d - run_from sheet key)
      unfolding gather
      miss h =
          let q : run_from sheet d ≡ run_from sheet (key + c) = rw e (sym (same-bound sheet (key + (c + 1)) (bound-miss sheet up key c (bound (key + c)) h) (bound (key + (c + 1))))) in
          rw (column c l, h, done, q) (append-nil _)

    words-to : (c : ℕ) → c ≤ width → gather f c ≡ gather (word_at word (run_from sheet key)) (run_from sheet (key + c) - run_from sheet key)
    unfolding gather
    words-to zero l =
        let e : key + 0 ≡ key = omega arith in
        let z : run_from sheet key - run_from sheet key ≡ 0 = omega arith in
        rw (e, z) refl
    words-to (suc c) l =
        let done = words-to c (omega arith) in
        by_test (has_key sheet (run_from sheet (key + c)) (key + c)) (hit c (key + suc c) (omega arith) (omega arith) done) (miss c (key + suc c) (omega arith) (omega arith) done)

    pub run-words : gather f width ≡ gather (word_at word (run_from sheet key)) (run_size sheet key width)
    unfolding run_size
    run-words = words-to width (omega arith)

-- as many words as entries
pub words-length : (word : ℕ → ℕ) (from k : ℕ) → length (gather (word_at word from) k) ≡ k
unfolding gather word_at
words-length word from zero = refl
words-length word from (suc k) = length-append (gather (word_at word from) k) (word (from + k) ∷ []) ∙ rw (words-length word from k) (add-one k)

-- ---- what a column has, by its entry

module _ (sheet : List ℕ) where
  pub key-told : (word : ℕ → ℕ) (old new c : ℕ) → ((e : ℕ) → word e ≡ new + (entry_key sheet e - old)) → (o : Option ℕ) (b : Bool) → b ≡ found o
      → ((e : ℕ) → o ≡ some e → entry_key sheet e ≡ old + c) → when b (new + c) ≡ option_map word o
  unfolding found
  key-told word old new c w none b q k = when-miss b _ q
  key-told word old new c w (some e) b q k =
      let z : old + c - old ≡ c = omega arith in
      when-hit b _ q ∙ ap some (sym (w e ∙ rw (k e refl, z) refl))

  pub positive : (o : Option ℕ) → ((e : ℕ) → o ≡ some e → 1 ≤ entry_value sheet e) → ltb 0 (found_or 0 (entry_value sheet) o) ≡ found o
  unfolding found
  positive none k = le-ltb 0 0 (omega arith)
  positive (some e) k = lt-ltb 0 (entry_value sheet e) (k e refl)

  pub count-told : (word : ℕ → ℕ) → ((e : ℕ) → word e ≡ entry_value sheet e) → (o : Option ℕ) → ((e : ℕ) → o ≡ some e → 1 ≤ entry_value sheet e)
      → when (ltb 0 (found_or 0 (entry_value sheet) o)) (found_or 0 (entry_value sheet) o) ≡ option_map word o
  count-told word w none k = when-miss _ _ (le-ltb 0 0 (omega arith))
  count-told word w (some e) k = when-hit _ _ (lt-ltb 0 (entry_value sheet e) (k e refl)) ∙ ap some (sym (w e))

  pub number_told : (numbers : List ℕ) (word : ℕ → ℕ) → ((e : ℕ) → word e ≡ number_in numbers (entry_value sheet e)) → (o : Option ℕ)
      → option_map (number_in numbers) (option_map (entry_value sheet) o) ≡ option_map word o
  number_told numbers word w none = refl
  number_told numbers word w (some e) = ap some (sym (w e))

  pub key-found : (key e : ℕ) → entry_with_key sheet key ≡ some e → entry_key sheet e ≡ key
  unfolding entry_with_key entry_key
  key-found key e z = (entry-some sheet 2 (entry_count sheet) key e z).1
