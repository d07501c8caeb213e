-- The pairs of a node, one behind another: an arc has one, a transition without an arc none, and a busy node none at all.
use Rattle.scan.proofs.Basics.{ℕ, zero, suc, ◌+◌, ◌≤◌, ◌<◌, add-one, ◌≡◌, refl, ap, ◌∙◌, true, false, none, some, List, [], ◌∷◌, ◌++◌, length, length-append}
use mathlib.Core.List.{append-nil}
use Rattle.scan.proofs.Tests.{by_test}
use Rattle.encoding.specs.Rows.{Appended}
use Rattle.encoding.proofs.Rows.{appended-none, appended-more}
use Rattle.reaction.specs.Words.{early, late, strung, pair_at, row_at}
use Rattle.reaction.specs.Call.{sheet_graph, sheet_await, best_time, worst_time}
use Rattle.react.specs.Report.{row_words}
use Rattle.react.proofs.ArcRows.{passes}

-- ---- lists one behind another

strung-next : (f : ℕ → List ℕ) (n : ℕ) → strung f (n + 1) ≡ strung f n ++ f n
unfolding strung
strung-next f n = rw add-one

pub strung-none : (f : ℕ → List ℕ) (out : List ℕ) (at : ℕ) → Appended out at (strung f 0) at out
unfolding strung
strung-none f out at = appended-none out at

module _ (f : ℕ → List ℕ) (n : ℕ) where
  pub strung-miss : f n ≡ [] → strung f (n + 1) ≡ strung f n
  strung-miss e = strung-next f n ∙ rw e (append-nil (strung f n))

  pub strung-hit : {out : List ℕ} {at next : ℕ} {out₁ : List ℕ} → Appended out at (strung f n) next out₁ → {more : List ℕ} {r : ℕ} {out₂ : List ℕ} → f n ≡ more
      → Appended out₁ next more r out₂ → Appended out at (strung f (n + 1)) r out₂
  strung-hit a e b = rw (strung-next f n, e) (appended-more a b)

  pub strung-long : length (strung f (n + 1)) ≡ length (strung f n) + length (f n)
  strung-long = ap length (strung-next f n) ∙ length-append (strung f n) (f n)

-- ---- the pairs of a node

module _ (net sheet words : List ℕ) (n : ℕ) where
  abbrev pub pairs : ℕ → List ℕ
  pairs = pair_at (sheet_graph net sheet) (sheet_await net sheet) (early words) (late words) n

  pub pair-none : (t : ℕ) → (sheet_graph net sheet).arc n t ≡ none → pairs t ≡ []
  unfolding pair_at
  pair-none t e = by_test (sheet_await net sheet n) (λ q. rw (q, e)) (λ q. rw q)

  -- transitions without an arc have none
  pub skip : (u t : ℕ) → u ≤ t → ((v : ℕ) → u ≤ v → v < t → (sheet_graph net sheet).arc n v ≡ none) → strung pairs t ≡ strung pairs u
  skip u t l h = passes (λ v. strung pairs v ≡ strung pairs u) u t l (λ v a b p. strung-miss pairs v (pair-none v (h v a b)) ∙ p) refl

  -- a busy node has none at all
  pub row-busy : sheet_await net sheet n ≡ false → row_words net sheet words n ≡ []
  unfolding row_at pair_at strung
  row-busy b = none_of (sheet_graph net sheet).transitions
    where
      none_of : (t : ℕ) → strung pairs t ≡ []
      none_of zero = refl
      none_of (suc t) = rw (none_of t, b)

  module _ (w : sheet_await net sheet n ≡ true) (t x : ℕ) (a : (sheet_graph net sheet).arc n t ≡ some x) where
    pub pair-some : pairs t ≡ (early words t + best_time net sheet words x) ∷ (late words t + worst_time net sheet words x) ∷ []
    unfolding pair_at
    pair-some = rw (w, a)

abbrev pub rows_of : List ℕ → List ℕ → List ℕ → ℕ → List ℕ
rows_of net sheet words n = strung (row_words net sheet words) n
