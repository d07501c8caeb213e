-- The cells of the arcs of kept nodes, with new numbers, as the code makes them.
use Rattle.scan.proofs.Basics.{ℕ, zero, suc, ◌+◌, ◌-◌, ◌≤◌, ◌<◌, add-one, arith, ◌≡◌, refl, ◌∙◌, ⊎_elim, List, length, get_or, set, replicate, length-set, get_or-set_other}
use Rattle.scan.proofs.Basics.{length-replicate}
use lib.ListN.{get_or-eq_default}
use Rattle.scan.proofs.Tests.{lt-suc-cases}
use Rattle.scan.proofs.Tabulate.{stored_more}
use Rattle.scan.proofs.Front.{zeros}
use Rattle.sequential.specs.Words.{entry_value}
use Rattle.encoding.specs.Kept.{number_in, arc_cell}

-- ---- one cell, as the code makes it

pub cell-none : (sheet numbers : List ℕ) (code : ℕ) → code ≡ 0 → 0 ≡ arc_cell sheet numbers code
unfolding arc_cell
cell-none sheet numbers code e = rw e refl

cell-some : (sheet numbers : List ℕ) (code : ℕ) → 0 < code → arc_cell sheet numbers code ≡ number_in numbers (entry_value sheet (code - 1)) + 1
unfolding arc_cell
cell-some sheet numbers zero l = absurd (omega arith)
cell-some sheet numbers (suc i) l = let e : suc i - 1 ≡ i = omega arith in rw e refl

-- whose value is told, and has a number in the table or has none
module _ (sheet numbers : List ℕ) (code value r : ℕ) (l : 0 < code) (e : value ≡ entry_value sheet (code - 1)) where
  pub cell-number : r ≡ get_or numbers value 0 + 1 → r ≡ arc_cell sheet numbers code
  unfolding number_in
  cell-number q = q ∙ rw (e, cell-some sheet numbers code l) refl

  pub cell-past : length numbers ≤ value → r ≡ 1 → r ≡ arc_cell sheet numbers code
  cell-past h q = cell-number (q ∙ rw (get_or-eq_default numbers 0 h) refl)

-- ---- the cells as a loop fills them: those up to t are there, the others 0

pub record Filled (f : ℕ → ℕ) (t : ℕ) (cells : List ℕ) : Type 0 where
  pub size : length cells ≡ 32
  pub below : (j : ℕ) → j < t → get_or cells j 0 ≡ f j
  pub above : (j : ℕ) → t ≤ j → get_or cells j 0 ≡ 0

pub filled_none : (f : ℕ → ℕ) → Filled f 0 (replicate 32 0)
filled_none f = record { size = length-replicate {A = ℕ} 32 0; below = λ j l. absurd (omega arith); above = λ j l. zeros 32 j }

module _ {f : ℕ → ℕ} {t : ℕ} {cells : List ℕ} (h : Filled f t cells) where
  pub filled_more : (v : ℕ) → t < 32 → v ≡ f t → Filled f (t + 1) (set cells t v)
  filled_more v l e = record {
    size = simp length-set h.size;
    below = stored_more f cells t v h.below (omega (arith, h.size)) e;
    above = λ j m. get_or-set_other cells t j v 0 (λ q. omega (arith, q)) ∙ h.above j (omega arith);
  }

  pub filled-skip : 0 ≡ f t → Filled f (t + 1) cells
  filled-skip e = record {
    size = h.size;
    below = λ j l. ⊎_elim (λ (q : j ≡ t). rw q (h.above t (omega arith) ∙ e)) (λ (m : j < t). h.below j m) (lt-suc-cases (rw (add-one t) at l));
    above = λ j m. h.above j (omega arith);
  }
