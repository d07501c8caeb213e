-- Two rows walked in step: each pointer stands at the lower bound of its next key, and the keys before it agree.
use Rattle.scan.proofs.Basics.{ℕ, suc, ◌+◌, ◌≤◌, ◌<◌, arith, ◌≡◌, refl, sym, ◌∙◌, Bool, true, false, cond, ◌&&◌, ltb, eqb, none, some, option_map, List, length, get_or}
use native.Mathlib.Nat.{add-zero}
use mathlib.Core.Bool.{beq}
use Rattle.scan.proofs.Tests.{ltb-true, lt-ltb, eqb-true, eq-eqb, true-false, and_left, and_right, and_both}
use Rattle.scan.specs.Scan.{all}
use Rattle.scan.proofs.Every.{all_in, all_more, all-fails}
use Rattle.table.specs.Table.{key_at, value_at, Rising}
use Rattle.table.proofs.Bisection.{LowerBound, lower-bound, lower-bound-entry}
use Rattle.table.proofs.Next.{next-hit, next-miss}
use Rattle.automaton.specs.Equivalence.{equal_arcs}
use Rattle.sequential.specs.Words.{entry_count, entry_value, entry_with_key}
use Rattle.minimize.specs.Agree.{has_key, key_value, values_agree, keys_agree, Valued, Rows}

-- ---- one pointer

map-cond : (f : ℕ → ℕ) (h : Bool) (i : ℕ) → option_map f (cond h (some i) none) ≡ cond h (some (f i)) none
map-cond f true i = refl
map-cond f false i = refl

next-key : (a t : ℕ) → a + (t + 1) ≡ suc (a + t)
next-key a t = omega arith

module _ (sheet : List ℕ) where
  pub has_within : (i key : ℕ) → has_key sheet i key ≡ true → i < entry_count sheet
  unfolding has_key
  has_within i key h = ltb-true i (entry_count sheet) (and_left (ltb i (entry_count sheet)) _ h)

  pub has-is : (i key : ℕ) → has_key sheet i key ≡ true → key_at sheet 2 i ≡ key
  unfolding has_key
  has-is i key h = eqb-true _ _ (and_right (ltb i (entry_count sheet)) _ h)

  module _ (up : Rising sheet 2 (entry_count sheet)) (a t : ℕ) {i : ℕ} (l : LowerBound sheet 2 (entry_count sheet) (a + t) i) where
    pub value-at-bound : key_value sheet (a + t) ≡ cond (has_key sheet i (a + t)) (some (entry_value sheet i)) none
    unfolding key_value entry_with_key has_key
    value-at-bound = rw (lower-bound-entry sheet 2 (entry_count sheet) (a + t) up i l) (map-cond (entry_value sheet) (ltb i (entry_count sheet) && eqb (key_at sheet 2 i) (a + t)) i)

    pub bound-hit : has_key sheet i (a + t) ≡ true → LowerBound sheet 2 (entry_count sheet) (a + (t + 1)) (i + 1)
    bound-hit h = rw (next-key a t) (next-hit sheet 2 (entry_count sheet) up (a + t) i (has_within i _ h) (has-is i _ h) l)

    pub bound-miss : has_key sheet i (a + t) ≡ false → LowerBound sheet 2 (entry_count sheet) (a + (t + 1)) i
    unfolding has_key
    bound-miss h =
        rw (next-key a t)
        (next-miss sheet 2 (entry_count sheet) up (a + t) i (λ m q. true-false _ (and_both _ _ (lt-ltb i (entry_count sheet) m) (eq-eqb _ _ q)) h) l)

-- the value of an arc's entry as the code reads it
pub target-read : {sheet classes : List ℕ} {counts : Bool} {i : ℕ} → Valued sheet classes counts i → counts ≡ false → get_or sheet (2 + entry_count sheet + i) 0 < length classes
unfolding entry_value value_at
target-read v e = v.target e

-- ---- two pointers

equal-differ : (r : ℕ → ℕ → Bool) (g h : Bool) (x y : ℕ) → beq g h ≡ false → equal_arcs r (cond g (some x) none) (cond h (some y) none) ≡ false
equal-differ r true true x y e = true-false true refl e
equal-differ r true false x y e = refl
equal-differ r false true x y e = refl
equal-differ r false false x y e = true-false true refl e

beq-right : (g h b : Bool) → beq g h ≡ true → g ≡ b → h ≡ b
beq-right true true b e p = p
beq-right true false b e p = true-false false e refl
beq-right false true b e p = true-false false e refl
beq-right false false b e p = p

-- the walk at t: its pointers, and what it has met agrees
pub record Walk (sheet classes : List ℕ) (counts : Bool) (width a b i j t x y : ℕ) : Type 0 where
  pub rows : Rows sheet classes counts width a b i j
  pub low : t ≤ width
  pub left : LowerBound sheet 2 (entry_count sheet) (a + t) x
  pub right : LowerBound sheet 2 (entry_count sheet) (b + t) y
  pub agreed : all (keys_agree sheet (values_agree classes counts) a b) t ≡ true

module _ {sheet classes : List ℕ} {counts : Bool} {width a b i j : ℕ} where
  pub walk_start : Rows sheet classes counts width a b i j → Walk sheet classes counts width a b i j 0 i j
  walk_start rows =
      let fits : 2 + entry_count sheet ≤ length sheet = omega (arith, rows.whole) in
      record {
        rows = rows;
        low = omega arith;
        left = rw (add-zero, rows.left.start) (lower-bound sheet 2 (entry_count sheet) a rows.rising fits);
        right = rw (add-zero, rows.right.start) (lower-bound sheet 2 (entry_count sheet) b rows.rising fits);
        agreed = all_in (keys_agree sheet (values_agree classes counts) a b) 0 (λ t l. absurd (omega arith));
      }

  -- a turn: whether each pointer has its key
  module _ {t x y : ℕ} (w : Walk sheet classes counts width a b i j t x y) (l : t < width) {g h : Bool} (p : g ≡ has_key sheet x (a + t)) (q : h ≡ has_key sheet y (b + t)) where
    up : Rising sheet 2 (entry_count sheet)
    up = w.rows.rising

    agree-here : keys_agree sheet (values_agree classes counts) a b t
        ≡ equal_arcs (values_agree classes counts) (cond g (some (entry_value sheet x)) none) (cond h (some (entry_value sheet y)) none)
    unfolding keys_agree
    agree-here = rw (p, q, value-at-bound sheet up a t w.left, value-at-bound sheet up b t w.right)

    apart : keys_agree sheet (values_agree classes counts) a b t ≡ false → false ≡ all (keys_agree sheet (values_agree classes counts) a b) width
    apart e = sym (all-fails (keys_agree sheet (values_agree classes counts) a b) width t l e)

    -- one has it and the other has not
    pub walk-differ : beq g h ≡ false → false ≡ all (keys_agree sheet (values_agree classes counts) a b) width
    walk-differ e = apart (agree-here ∙ equal-differ (values_agree classes counts) g h (entry_value sheet x) (entry_value sheet y) e)

    module _ (e : beq g h ≡ true) where
      -- neither has it
      pub walk-miss : g ≡ false → Walk sheet classes counts width a b i j (t + 1) x y
      walk-miss d =
          let f = beq-right g h false e d in
          record {
            rows = w.rows;
            low = omega arith;
            left = bound-miss sheet up a t w.left (sym p ∙ d);
            right = bound-miss sheet up b t w.right (sym q ∙ f);
            agreed = all_more _ t w.agreed (agree-here ∙ rw (d, f));
          }

      -- both have it
      module _ (d : g ≡ true) where
        here : h ≡ true
        here = beq-right g h true e d

        -- and the values do not agree
        pub walk-apart : values_agree classes counts (entry_value sheet x) (entry_value sheet y) ≡ false → false ≡ all (keys_agree sheet (values_agree classes counts) a b) width
        walk-apart z = apart (agree-here ∙ rw (d, here) z)

        -- or agree
        pub walk-hit : values_agree classes counts (entry_value sheet x) (entry_value sheet y) ≡ true → Walk sheet classes counts width a b i j (t + 1) (x + 1) (y + 1)
        walk-hit z = record {
          rows = w.rows;
          low = omega arith;
          left = bound-hit sheet up a t w.left (sym p ∙ d);
          right = bound-hit sheet up b t w.right (sym q ∙ here);
          agreed = all_more _ t w.agreed (agree-here ∙ rw (d, here) z);
        }
