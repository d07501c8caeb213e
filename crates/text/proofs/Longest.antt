-- How long the lines are at most if no number has more than ten digits.
use Rattle.scan.proofs.Basics.{ℕ, zero, suc, ◌+◌, ◌*◌, ◌≤◌, ◌<◌, arith, List, length, get_or, length-append}
use Prim.Native.Nat.{◌^◌}
use Prim.Native.String.{String}
use Rattle.text.specs.Decimal.{ascii}
use Rattle.text.specs.Lines.{field, joined, kind_name, answer_text, answer_line, counts_line, bound_line, bound_line_of, bound_lines, word_of, words_text, form_line, accepted_lines}
use Rattle.text.proofs.Decimal.{decimal-length}

abbrev pub Short : ℕ → Type 0
Short n = n < 10 ^ 10

abbrev pub AllShort : List ℕ → Type 0
AllShort l = (i : ℕ) → i < length l → Short (get_or l i 0)

field-length : (name : String) (n : ℕ) → Short n → length (field name n) ≤ length (ascii name) + 10
unfolding field
field-length name n l = simp length-append (omega (arith, decimal-length 9 n l))

joined_length : (f : ℕ → List ℕ) (k n : ℕ) → ((i : ℕ) → i < n → length (f i) ≤ k) → length (joined f n) ≤ k * n
unfolding joined
joined_length f k zero h = omega arith
joined_length f k (suc n) h = simp length-append (omega (arith, joined_length f k n (λ i l. h i (omega arith)), h n (omega arith)))

kind-length : (kind : ℕ) → length (ascii (kind_name kind)) ≤ 7
kind-length zero = omega arith
kind-length (suc zero) = omega arith
kind-length (suc (suc zero)) = omega arith
kind-length (suc (suc (suc zero))) = omega arith
kind-length (suc (suc (suc (suc k)))) = omega arith

pub answer-length : (number kind index : ℕ) → Short number → Short index → length (answer_line number kind index) ≤ 36
unfolding answer_text answer_line
answer-length number kind index a b = simp length-append (omega (arith, field-length "answer " number a, kind-length kind, field-length " " index b))

module _ (bounds : List ℕ) (few : length bounds ≤ 10 ^ 9) (short : AllShort bounds) where
  bound-length : (p : ℕ) → p < length bounds → length (bound_line_of bounds p) ≤ 34
  unfolding bound_line_of bound_line
  bound-length p l = simp length-append (omega (arith, field-length "place " p (omega arith), field-length " bound " (get_or bounds p 0) (short p l)))

  bounds-length : length (bound_lines bounds) ≤ 34 * length bounds
  unfolding bound_lines
  bounds-length = joined_length (bound_line_of bounds) 34 (length bounds) bound-length

module _ (form : List ℕ) (short : AllShort form) where
  word-length : (i : ℕ) → i < length form → length (word_of form i) ≤ 11
  unfolding word_of
  word-length i l = field-length " " (get_or form i 0) (short i l)

  form-length : length (form_line form) ≤ 6 + 11 * length form
  unfolding words_text form_line
  form-length = simp length-append (omega (arith, joined_length (word_of form) 11 (length form) word-length))

pub accepted-length : (nodes arcs awaits : ℕ) (bounds form : List ℕ) → Short nodes → Short arcs → Short awaits → length bounds ≤ 10 ^ 9 → AllShort bounds → AllShort form
    → length (accepted_lines nodes arcs awaits bounds form) ≤ 93 + 34 * length bounds + 11 * length form
unfolding accepted_lines counts_line
accepted-length nodes arcs awaits bounds form a b c few short words =
    simp length-append (omega (
      arith,
      answer-length 0 0 0 (omega arith) (omega arith),
      field-length "nodes " nodes a,
      field-length " arcs " arcs b,
      field-length " awaits " awaits c,
      bounds-length bounds few short,
      form-length form words,
    ))
