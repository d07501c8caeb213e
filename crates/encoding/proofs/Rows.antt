-- Words appended to a buffer, piece by piece; and the rows of an automaton, one after the other, as the sections of its words.
use Rattle.scan.proofs.Basics.{ℕ, zero, suc, ◌+◌, ◌-◌, ◌≤◌, ◌<◌, arith, ◌≡◌, refl, sym, ap, ◌∙◌, ltb, leb, Option, none, some, List, [], ◌∷◌, ◌++◌, length, get_or, set, length-append}
use mathlib.Core.List.{append-nil}
use Rattle.scan.proofs.Tests.{lt-ltb, le-ltb, leb-true, leb-false, by_test}
use Rattle.scan.specs.Scan.{when, found, count}
use Rattle.scan.specs.Placed.{placed, next_place}
use Rattle.scan.proofs.Count.{count-ext}
use Rattle.scan.proofs.First.{when-hit, when-miss}
use Rattle.scan.proofs.Placed.{placed-none, placed_past, placed-length, next-append, placed-next}
use Rattle.automaton.specs.Automaton.{Automaton}
use Rattle.sequential.specs.Petri.{PetriNet}
use Rattle.encoding.specs.Encoding.{list_of, gather, gather_rows, key_of_arc, key_of_count, value_of_count, keys, values, encode}
use Rattle.encoding.specs.Rows.{word_of, filled_at, column_word, row_words, Appended, width_of, cell_of, arc_code, section_cell, first_key, RowOf, section_to, section_of}
use Rattle.encoding.specs.declared.Row.{Row}
use Rattle.encoding.specs.declared.Section.{Section}
use Rattle.encoding.specs.declared.Section.TheVariants.{ArcKeys, CountKeys, Numbers, Counts}
use Rattle.encoding.proofs.Gather.{finds, gather-more, gather-length, rows_none, rows_more}
use Rattle.encoding.proofs.Encoding.{found-when}

-- ---- words appended

pub appended-none : (out : List ℕ) (at : ℕ) → Appended out at [] at out
unfolding next_place
appended-none out at = record { behind = omega arith; held = placed-none out at }

module _ {out : List ℕ} {at : ℕ} {words : List ℕ} {next : ℕ} {out₁ : List ℕ} (a : Appended out at words next out₁) where
  pub appended-length : length out₁ ≡ length out
  appended-length = ap length a.held ∙ placed-length words out at

  -- more behind them
  pub appended-more : {more : List ℕ} {r : ℕ} {out₂ : List ℕ} → Appended out₁ next more r out₂ → Appended out at (words ++ more) r out₂
  appended-more {more} b = record {
    behind = b.behind ∙ rw (appended-length, a.behind) (next-append (length out) at words more);
    held = b.held ∙ rw (a.behind, a.held) (placed-next words more out at);
  }

module _ (word : ℕ) (out : List ℕ) (at : ℕ) where
  pub appended_one : at < length out → Appended out at (word ∷ []) (at + 1) (set out at word)
  unfolding next_place placed
  appended_one l = record { behind = omega arith; held = refl }

  pub appended-past : length out ≤ at → Appended out at (word ∷ []) at out
  unfolding next_place
  appended-past l = record { behind = omega arith; held = sym (placed_past (word ∷ []) out at l) }

-- ---- what a row's columns have

module _ (section : Section) (first : ℕ) (cells : List ℕ) (c : ℕ) where
  pub column-hit : 0 < get_or cells c 0 → column_word section first cells c ≡ some (word_of section (first + c) (get_or cells c 0))
  unfolding column_word filled_at
  column-hit l = when-hit _ _ (lt-ltb _ _ l)

  pub column-miss : get_or cells c 0 ≤ 0 → column_word section first cells c ≡ none
  unfolding column_word filled_at
  column-miss l = when-miss _ _ (le-ltb _ _ l)

-- the turns of a loop over the columns
module _ (f : ℕ → Option ℕ) (c : ℕ) {out : List ℕ} {at next : ℕ} {out₁ : List ℕ} (a : Appended out at (gather f c) next out₁) where
  pub gathered-hit : {word r : ℕ} {out₂ : List ℕ} → f c ≡ some word → Appended out₁ next (word ∷ []) r out₂ → Appended out at (gather f (c + 1)) r out₂
  gathered-hit e b = rw (gather-more f c, e) (appended-more a b)

  pub gathered-miss : f c ≡ none → Appended out at (gather f (c + 1)) next out₁
  gathered-miss e = rw (gather-more f c, e, append-nil (gather f c)) a

pub filled-count : (section : Section) (first : ℕ) (cells : List ℕ) (n : ℕ) → length (gather (column_word section first cells) n) ≡ count (filled_at cells) n
unfolding finds column_word
filled-count section first cells n =
    gather-length (column_word section first cells) n ∙ count-ext (finds (column_word section first cells)) (filled_at cells) n (λ c l. found-when _ _)

-- ---- the sections of an automaton's words

pub gather-cut : (f g : ℕ → Option ℕ) (n m : ℕ) → n ≤ m → ((i : ℕ) → i < n → f i ≡ g i) → ((i : ℕ) → n ≤ i → i < m → f i ≡ none) → gather f m ≡ gather g n
unfolding gather
gather-cut f g n zero l h z = let e : n ≡ 0 = omega arith in rw e refl
gather-cut f g n (suc m) l h z =
    by_test (leb n m)
    (λ e. let k = leb-true n m e in rw (z m k (omega arith)) (append-nil (gather f m) ∙ gather-cut f g n m k h (λ i a b. z i a (omega arith))))
    (λ e. let k : n ≡ suc m = omega (arith, leb-false n m e) in
    rw k (rw (h m (omega arith)) (ap (λ (w : List ℕ). w ++ list_of (g m)) (gather-cut f g m m (omega arith) (λ i a. h i (omega arith)) (λ i a b. absurd (omega arith))))))

code-found : (o : Option ℕ) → ltb 0 (arc_code o) ≡ found o
unfolding found
code-found none = le-ltb 0 0 (omega arith)
code-found (some m) = lt-ltb 0 (m + 1) (omega arith)

code-when : (o : Option ℕ) → when (ltb 0 (arc_code o)) (arc_code o - 1) ≡ o
code-when none = when-miss _ _ (le-ltb 0 0 (omega arith))
code-when (some m) = let e : m + 1 - 1 ≡ m = omega arith in when-hit _ _ (lt-ltb 0 (m + 1) (omega arith)) ∙ ap some e

module _ (N : PetriNet) (A : Automaton) where
  -- a row that tells node n's entries has their words
  column-is : (section : Section) (n c x : ℕ) → x ≡ section_cell N A section n c → when (ltb 0 x) (word_of section (first_key N A section n + c) x) ≡ cell_of N A section n c
  unfolding key_of_arc key_of_count value_of_count
  column-is ArcKeys n c x e = rw (e, code-found (A.arc n c)) refl
  column-is CountKeys n c x e = rw e refl
  column-is Numbers n c x e = rw e (code-when (A.arc n c))
  column-is Counts n c x e = rw e refl

  module _ {section : Section} {n : ℕ} {row : Row} (r : RowOf N A section n row) (narrow : width_of N A section ≤ 32) where
    pub row_words_lem : row_words row section ≡ gather (cell_of N A section n) (width_of N A section)
    unfolding row_words column_word filled_at
    row_words_lem =
        gather-cut (column_word section row.first row.cells) (cell_of N A section n) (width_of N A section) 32 narrow
        (λ c l. rw r.first (column-is section n c (get_or row.cells c 0) (r.entry c l))) (λ c l m. rw (r.past c l m) (when-miss _ _ (le-ltb 0 0 (omega arith))))

    -- as many as it has entries
    pub row_count : count (filled_at row.cells) 32 ≡ length (gather (cell_of N A section n) (width_of N A section))
    unfolding row_words
    row_count = sym (filled-count section row.first row.cells 32) ∙ ap length row_words_lem

  -- the rows of both sections of arcs are one, and those of both of counts
  module _ {n : ℕ} {row : Row} where
    pub arc-keys-row : RowOf N A Numbers n row → RowOf N A ArcKeys n row
    arc-keys-row r = record { first = r.first; entry = r.entry; past = r.past }

    pub count-keys-row : RowOf N A Counts n row → RowOf N A CountKeys n row
    count-keys-row r = record { first = r.first; entry = r.entry; past = r.past }

  -- ---- row by row

  pub section-none : (section : Section) → section_to N A section 0 ≡ []
  unfolding section_to
  section-none section = rows_none _ _

  pub section-length : (section : Section) (n : ℕ)
      → length (section_to N A section (n + 1)) ≡ length (section_to N A section n) + length (gather (cell_of N A section n) (width_of N A section))
  unfolding section_to
  section-length section n =
      ap length (rows_more (cell_of N A section) (width_of N A section) n)
      ∙ length-append (gather_rows (cell_of N A section) (width_of N A section) n) (gather (cell_of N A section n) (width_of N A section))

  pub section-more : (section : Section) (n : ℕ) {row : Row} {out : List ℕ} {at next r : ℕ} {out₁ out₂ : List ℕ} → RowOf N A section n row → width_of N A section ≤ 32
      → Appended out at (section_to N A section n) next out₁ → Appended out₁ next (row_words row section) r out₂ → Appended out at (section_to N A section (n + 1)) r out₂
  unfolding section_to
  section-more section n h narrow a b = rw (rows_more (cell_of N A section) (width_of N A section) n) (appended-more a (rw (row_words_lem h narrow) at b))

  -- ---- all of them

  pub encode-sections : encode N A
      ≡ A.nodes ∷ length (keys N A) ∷ ((section_of N A ArcKeys ++ section_of N A CountKeys) ++ (section_of N A Numbers ++ section_of N A Counts))
  unfolding encode keys values section_of section_to
  encode-sections = refl

  pub keys-sections : length (keys N A) ≡ length (section_of N A ArcKeys) + length (section_of N A CountKeys)
  unfolding keys section_of section_to
  keys-sections = length-append (gather_rows (key_of_arc N A) N.transitions A.nodes) (gather_rows (key_of_count N A) N.places A.nodes)
