-- What is written: words that are copied, and the rows of a part, which are the counts that the arcs force, or their changes.
use Rattle.scan.proofs.Basics.{ℕ, zero, suc, ◌+◌, ◌-◌, ◌*◌, ◌≤◌, ◌<◌, add-one, arith, ◌≡◌, refl, sym, ap, ◌∙◌, not, ltb, eqb, Option, List, [], ◌∷◌, ◌++◌, length, get_or, length-append}
use mathlib.Core.Bool.{and-false}
use Rattle.scan.proofs.Tests.{lt-ltb, le-ltb, by_test}
use Rattle.scan.specs.Scan.{when, count, tabulate}
use Rattle.scan.specs.Placed.{placed}
use Rattle.scan.proofs.Count.{count-le}
use Rattle.scan.proofs.Tabulate.{tabulate-at}
use Rattle.automaton.specs.Automaton.{Automaton}
use Rattle.sequential.specs.Petri.{PetriNet, petri_net}
use Rattle.sequential.specs.Words.{node_count, entry_count, entry_key, entry_value, count_at, graph}
use Rattle.table.specs.Table.{key_at, value_at}
use Rattle.graph.specs.Readable.{ArcsReadable}
use Rattle.graph.specs.Rows.{counts_start, marking_row}
use Rattle.graph.proofs.Rows.{marking-right}
use Rattle.graph.proofs.Starts.{counts-start-is}
use Rattle.encoding.specs.Encoding.{gather, gather_rows, held, key_of_count, value_of_count}
use Rattle.encoding.specs.Rows.{word_of, filled_at, column_word, row_words, Appended, RowOf}
use Rattle.encoding.specs.declared.Row.{Row}
use Rattle.encoding.specs.declared.Section.{Section}
use Rattle.encoding.specs.declared.Section.TheVariants as section
use Rattle.encoding.proofs.Rows.{appended-none, appended-more, column-miss, filled-count, gather-cut, row_words_lem, count-keys-row}
use Rattle.mended.specs.Counts.{new_count, mended_graph}
use Rattle.mended.specs.Mend.{mended_words}
use Rattle.mended.specs.Changes.{changed, changed_key, changed_count, changed_keys, changed_counts, change_list, changes}
use Rattle.mended.proofs.Mended.{mended-label}
use Rattle.mended.proofs.Copied.{mended-copied}
use Rattle.mended.proofs.Copied as whole
use Rattle.mend.specs.Rows.{row_of}
use Rattle.mend.specs.Writing.{copied, changed_number, changed_cell, part_row, part_to, part_of, half_of, entries_of}
use Rattle.mend.specs.declared.writer.Part.{Part}
use Rattle.mend.specs.declared.writer.Part.TheVariants.{Counts, Changes}
use Rattle.mend.proofs.Climbing.{new-past, row_at}

-- ---- one after the other

pub copied_more : (words : List ℕ) (from i : ℕ) {out out₁ out₂ : List ℕ} {at next after : ℕ} → Appended out at (tabulate (copied words from) i) next out₁
    → Appended out₁ next (get_or words (from + i) 0 ∷ []) after out₂ → Appended out at (tabulate (copied words from) (i + 1)) after out₂
unfolding tabulate copied
copied_more words from i a b = rw (add-one i) (appended-more a b)

-- what was written from the start on
pub written_from : {out words xs out' : List ℕ} {next : ℕ} → Appended out 0 xs next out' → xs ≡ words → out' ≡ placed out 0 words
written_from {out} a e = a.held ∙ ap (placed out 0) e

module _ (net sheet : List ℕ) (part : Part) (section : Section) where
  pub part_none : {out : List ℕ} {at : ℕ} → Appended out at (part_to net sheet part section 0) at out
  unfolding part_to
  part_none = appended-none _ _

  module _ (n : ℕ) {row : Row} (e : row ≡ part_row net sheet part n) where
    pub part-more : {out out₁ out₂ : List ℕ} {at next after : ℕ} → Appended out at (part_to net sheet part section n) next out₁
        → Appended out₁ next (row_words row section) after out₂ → Appended out at (part_to net sheet part section (n + 1)) after out₂
    unfolding part_to
    part-more a b = rw (add-one n) (appended-more a (rw e at b))

    row_count : length (row_words (part_row net sheet part n) section) ≡ count (filled_at row.cells) 32
    unfolding row_words
    row_count = rw e (filled-count section _ _ 32)

    -- how many entries one more row has
    pub part_count : {entries k : ℕ} → entries ≡ length (part_to net sheet part section n) → k ≡ count (filled_at row.cells) 32 → entries + k ≡ length (part_to net sheet part section (n + 1))
    unfolding part_to
    part_count a q = rw (add-one n) (omega (arith, a, q, length-append (part_to net sheet part section n) (row_words (part_row net sheet part n) section), row_count))

  -- a node has 32 entries at most
  pub part-few : (n : ℕ) {entries : ℕ} → entries ≡ length (part_to net sheet part section n) → entries ≤ 32 * n
  unfolding part_to
  part-few zero e = omega arith
  part-few (suc n) e = omega (
    arith,
    part-few n refl,
    length-append (part_to net sheet part section n) (row_words (part_row net sheet part n) section),
    row_count n refl,
    count-le (filled_at (part_row net sheet part n).cells) 32,
  )

-- ---- one number: changed or not, and what is told of it

module _ (new given : ℕ) where
  told-key : (key : ℕ) → when (ltb 0 (changed_number new given)) key ≡ when (not (eqb new given)) key
  unfolding changed_number
  told-key key = by_test (eqb new given) (λ e. rw e) (λ e. rw (e, lt-ltb 0 (new + 1) (omega arith)))

  told-number : when (ltb 0 (changed_number new given)) (changed_number new given - 1) ≡ when (not (eqb new given)) new
  unfolding changed_number
  told-number =
      let q : new + 1 - 1 ≡ new = omega arith in
      by_test (eqb new given) (λ e. rw e (unfold when in refl)) (λ e. rw (e, lt-ltb 0 (new + 1) (omega arith), q))

module _ (net sheet : List ℕ) (r : ArcsReadable net sheet) where
  abbrev N : PetriNet
  N = petri_net net

  abbrev A : Automaton
  A = graph (petri_net net) sheet

  abbrev M : Automaton
  M = mended_graph (petri_net net) (graph (petri_net net) sheet)

  -- ---- node n's rows

  module _ (n : ℕ) (l : n < node_count sheet) where
    few : n ≤ 128
    few = omega (arith, r.sizes.few_nodes)

    held-at : (p : ℕ) → held N M n p ≡ new_count N A n p
    unfolding held new_count
    held-at p = ap (λ (x : List ℕ). get_or x p 0) (mended-label N A n l)

    counts-row : RowOf N M section.Counts n (part_row net sheet Counts n)
    unfolding mended_graph
    counts-row = record {
      first = let s = r.sizes in counts-start-is net (node_count sheet) n s.few_nodes few s.few_transitions s.few_places;
      entry = λ p k. row_at N sheet n p (omega (arith, r.sizes.few_places)) ∙ sym (held-at p);
      past = λ p k m. row_at N sheet n p m ∙ new-past N sheet n p k;
    }

    given-at : (p : ℕ) → p < 32 → get_or (marking_row net sheet n) p 0 ≡ count_at N sheet n p
    given-at p k = rw (marking-right net sheet r n l) (tabulate-at (count_at N sheet n) 0 32 p k)

    given-past : (p : ℕ) → N.places ≤ p → count_at N sheet n p ≡ 0
    unfolding count_at
    given-past p k = rw (le-ltb p N.places k, and-false (ltb n (node_count sheet)))

    cell_at : (p : ℕ) → p < 32 → get_or (part_row net sheet Changes n).cells p 0 ≡ changed_number (new_count N A n p) (count_at N sheet n p)
    unfolding changed_cell
    cell_at p k = tabulate-at (changed_cell (row_of N sheet n) (marking_row net sheet n)) 0 32 p k ∙ rw (row_at N sheet n p k, given-at p k)

    -- 0 from P on, where nothing is held before and after
    cell-past : (p : ℕ) → N.places ≤ p → p < 32 → get_or (part_row net sheet Changes n).cells p 0 ≡ 0
    unfolding changed_number
    cell-past p k m = cell_at p m ∙ rw (new-past N sheet n p k, given-past p k)

    changes-words : (section : Section) (f : ℕ → Option ℕ)
        → ((p : ℕ) → when (ltb 0 (changed_number (new_count N A n p) (count_at N sheet n p))) (word_of section (n * N.places + p) (changed_number (new_count N A n p) (count_at N sheet n p))) ≡ f p)
        → row_words (part_row net sheet Changes n) section ≡ gather f N.places
    unfolding row_words column_word filled_at
    changes-words section f h =
        let q : counts_start net 0 n ≡ n * N.places = counts-start-is net 0 n (omega arith) few r.sizes.few_transitions r.sizes.few_places ∙ omega arith in
        gather-cut (column_word section (counts_start net 0 n) (part_row net sheet Changes n).cells) f N.places 32 r.sizes.few_places
        (λ p k. rw (q, cell_at p (omega (arith, r.sizes.few_places))) (h p))
        (λ p k m. column-miss section (counts_start net 0 n) (part_row net sheet Changes n).cells p (omega (arith, cell-past p k m)))

  -- ---- the parts are what they are to be

  part-is : (part : Part) (section : Section) (f : ℕ → ℕ → Option ℕ) → ((n : ℕ) → n < node_count sheet → row_words (part_row net sheet part n) section ≡ gather (f n) N.places)
      → (v : ℕ) → v ≤ node_count sheet → part_to net sheet part section v ≡ gather_rows f N.places v
  unfolding part_to gather_rows
  part-is part section f h zero l = refl
  part-is part section f h (suc v) l = rw (part-is part section f h v (omega arith), h v (omega arith))

  pub count-keys : part_of net sheet Counts section.CountKeys ≡ gather_rows (key_of_count N M) N.places (node_count sheet)
  count-keys = part-is Counts section.CountKeys (key_of_count N M) (λ n l. row_words_lem N M (count-keys-row N M (counts-row n l)) r.sizes.few_places) _ (omega arith)

  pub counts : part_of net sheet Counts section.Counts ≡ gather_rows (value_of_count N M) N.places (node_count sheet)
  counts = part-is Counts section.Counts (value_of_count N M) (λ n l. row_words_lem N M (counts-row n l) r.sizes.few_places) _ (omega arith)

  pub change-keys : part_of net sheet Changes section.CountKeys ≡ changed_keys N sheet
  unfolding changed_keys changed_key changed
  change-keys = part-is Changes section.CountKeys (changed_key N sheet)
      (λ n l. changes-words n l section.CountKeys (changed_key N sheet n) (λ p. told-key (new_count N A n p) (count_at N sheet n p) _)) _ (omega arith)

  pub change-counts : part_of net sheet Changes section.Numbers ≡ changed_counts N sheet
  unfolding changed_counts changed_count changed
  change-counts = part-is Changes section.Numbers (changed_count N sheet)
      (λ n l. changes-words n l section.Numbers (changed_count N sheet n) (λ p. told-number (new_count N A n p) (count_at N sheet n p))) _ (omega arith)

  -- ---- the whole

  pub part-most : (part : Part) (section : Section) → length (part_of net sheet part section) ≤ 4096
  part-most part section = omega (arith, part-few net sheet part section (node_count sheet) refl, r.sizes.few_nodes)

  pub entries-most : entries_of net sheet ≤ 8192
  unfolding entries_of
  entries-most = omega (arith, whole.arcs-within N sheet r.sizes.some_transition r.holds, r.sizes.few_entries, part-most Counts section.CountKeys)

  pub sheet_words : ((((node_count sheet ∷ []) ++ (entries_of net sheet ∷ [])) ++ half_of net sheet 2 section.CountKeys) ++ half_of net sheet (2 + entry_count sheet) section.Counts)
      ≡ mended_words net sheet
  unfolding mended_words whole.copied half_of entries_of copied entry_key key_at entry_value value_at
  sheet_words = rw (count-keys, counts) (sym (mended-copied N sheet r.sizes.some_transition r.holds))

  pub list-words : (((length (part_of net sheet Changes section.CountKeys) ∷ []) ++ part_of net sheet Changes section.CountKeys) ++ part_of net sheet Changes section.Numbers)
      ≡ changes net sheet
  unfolding changes change_list
  list-words = rw (change-keys, change-counts) refl
