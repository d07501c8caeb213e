-- The row of a new node is the run of its old one with new words, as a loop along it writes them.
use Rattle.scan.proofs.Basics.{ℕ, ◌+◌, ◌-◌, ◌*◌, ◌≤◌, ◌<◌, arith, ◌≡◌, refl, sym, ap, ◌∙◌, Bool, true, false, ltb, some, option_map, List, [], ◌∷◌}
use Rattle.scan.proofs.Basics.{length, get_or, replicate}
use native.Mathlib.Nat.{add-zero, mul-le-mul}
use Rattle.scan.specs.Scan.{found, found_or}
use Rattle.scan.proofs.First.{found_map}
use Rattle.scan.proofs.Count.{count-le}
use Rattle.table.specs.Table.{key_at, Rising}
use Rattle.table.proofs.Bisection.{LowerBound}
use Rattle.automaton.specs.Automaton.{Automaton}
use Rattle.automaton.specs.Quotient.{minimal}
use Rattle.sequential.specs.Petri.{PetriNet, petri_net}
use Rattle.sequential.specs.Words.{node_count, entry_count, entry_value, entry_with_key, graph}
use Rattle.sequential.proofs.Words.{words-rise, words-fit}
use Rattle.sequential.proofs.Entries.{marking-at}
use Rattle.graph.specs.Readable.{Readable, Sizes}
use Rattle.graph.proofs.Readable.{known, words}
use Rattle.graph.proofs.Starts.{arcs-start-is, counts-start-low, counts-start-is}
use Rattle.encoding.specs.Encoding.{gather, held, key_of_arc, key_of_count, value_of_count}
use Rattle.encoding.specs.Kept.{number_in}
use Rattle.encoding.specs.Rows.{Appended, width_of, cell_of}
use Rattle.encoding.specs.declared.Section.{Section}
use Rattle.encoding.specs.declared.Section.TheVariants.{ArcKeys, CountKeys, Numbers, Counts}
use Rattle.encoding.proofs.Gather.{finds, gather-length}
use Rattle.encoding.proofs.Rows.{gathered-hit}
use Rattle.minimize.specs.Agree.{key_value, row_key, row_width}
use Rattle.minimize.specs.Runs.{of_counts, new_key, run_from, run_size, row_size, entry_word, word_at, Worded, NewRow, Keyed, Running}
use Rattle.minimize.proofs.NodeRows.{row_low, arc_value, count-some, count-value}
use Rattle.minimize.proofs.Level.{arcs-valued}
use Rattle.minimize.proofs.Runs.{bound, run-words, words-length, key-told, positive, count-told, number_told, key-found}

-- ---- the row of a new node

module _ {net sheet numbers : List ℕ} {found' n i : ℕ} (h : NewRow net sheet numbers found' n i) where
  abbrev N : PetriNet
  N = petri_net net

  abbrev M : Automaton
  M = minimal (graph (petri_net net) sheet)

  sizes : Sizes net sheet
  sizes = known net sheet h.readable

  pub rises : Rising sheet 2 (entry_count sheet)
  rises = words-rise N sheet (words net sheet h.readable).arcs

  pub whole : 2 + entry_count sheet ≤ length sheet
  whole = words-fit N sheet (words net sheet h.readable).arcs

  new-arc : new_key net found' false i ≡ i * N.transitions
  unfolding new_key
  new-arc = arcs-start-is net i (omega (arith, h.new, h.few)) sizes.some_transition sizes.few_transitions

  new-count : new_key net found' true i ≡ M.nodes * N.transitions + i * N.places
  unfolding new_key
  new-count =
      counts-start-is net found' i h.few (omega (arith, h.new, h.few)) sizes.few_transitions sizes.few_places ∙ rw h.size refl

  arc-told : {t : ℕ} → t < N.transitions → M.arc i t ≡ option_map (number_in numbers) (option_map (entry_value sheet) (entry_with_key sheet (row_key net sheet false n + t)))
  unfolding key_value
  arc-told {t} l = h.arcs t ∙ ap (option_map (number_in numbers)) (arc_value h.readable h.old l)

  held-told : {p : ℕ} → p < N.places → held N M i p ≡ found_or 0 (entry_value sheet) (entry_with_key sheet (row_key net sheet true n + p))
  unfolding held
  held-told {p} l = rw h.label (marking-at N sheet n p h.old l ∙ count-value h.readable h.old l)

  cell : (section : Section) (c : ℕ) → c < row_width net (of_counts section) → cell_of N M section i c
      ≡ option_map (entry_word sheet numbers section (row_key net sheet (of_counts section) n) (new_key net found' (of_counts section) i))
      (entry_with_key sheet (row_key net sheet (of_counts section) n + c))
  unfolding row_width entry_word key_of_arc key_of_count value_of_count
  cell ArcKeys c l =
      rw (← new-arc)
      (key-told sheet _ (row_key net sheet false n) (new_key net found' false i) c (λ e. refl) (entry_with_key sheet (row_key net sheet false n + c)) (found (M.arc i c))
      (ap found (arc-told l) ∙ found_map _ _ ∙ found_map _ _) (key-found sheet (row_key net sheet false n + c)))
  cell CountKeys c l =
      rw (← new-count)
      (key-told sheet _ (row_key net sheet true n) (new_key net found' true i) c (λ e. refl) (entry_with_key sheet (row_key net sheet true n + c)) (ltb 0 (held N M i c))
      (rw (held-told l) (positive sheet (entry_with_key sheet (row_key net sheet true n + c)) (λ e z. count-some h.readable n c e h.old z))) (key-found sheet (row_key net sheet true n + c)))
  cell Numbers c l = arc-told l ∙ number_told sheet numbers _ (λ e. refl) (entry_with_key sheet (row_key net sheet false n + c))
  cell Counts c l = rw (held-told l) (count-told sheet _ (λ e. refl) (entry_with_key sheet (row_key net sheet true n + c)) (λ e z. count-some h.readable n c e h.old z))

  width_is : (section : Section) → width_of N M section ≡ row_width net (of_counts section)
  unfolding row_width
  width_is ArcKeys = refl
  width_is CountKeys = refl
  width_is Numbers = refl
  width_is Counts = refl

  few-columns : (section : Section) → width_of N M section ≤ 32
  few-columns ArcKeys = sizes.few_transitions
  few-columns CountKeys = sizes.few_places
  few-columns Numbers = sizes.few_transitions
  few-columns Counts = sizes.few_places

  new-low : (counts : Bool) → new_key net found' counts i ≤ 8192
  new-low true = unfold new_key in (counts-start-low net found' i)
  new-low false = let few : i ≤ 128 = omega (arith, h.new, h.few) in rw new-arc (omega (arith, mul-le-mul few sizes.few_transitions))

  target_low : (section : Section) {k : ℕ} → k < row_size net sheet (of_counts section) n → section ≡ Numbers
      → entry_value sheet (run_from sheet (row_key net sheet (of_counts section) n) + k) < 128
  target_low ArcKeys l s = let z : ◌≡◌ {A = ℕ} 0 1 = cc in omega arith
  target_low CountKeys l s = let z : ◌≡◌ {A = ℕ} 0 1 = cc in omega arith
  target_low Counts l s = let z : ◌≡◌ {A = ℕ} 0 1 = cc in omega arith
  target_low Numbers {k} l s =
      let m : k < run_from sheet (row_key net sheet false n + N.transitions) - run_from sheet (row_key net sheet false n) = unfold row_size run_size row_width in l in
      let p : LowerBound sheet 2 (entry_count sheet) (row_key net sheet false n + 0) (run_from sheet (row_key net sheet false n)) = rw add-zero (bound rises whole (row_key net sheet false n)) in
      (arcs-valued h.readable {classes = replicate 128 0} refl h.old p (bound rises whole (row_key net sheet false n + N.transitions))
      (run_from sheet (row_key net sheet false n) + k) (omega arith) (omega arith)).target refl

  module _ (section : Section) where
    abbrev old : ℕ
    old = row_key net sheet (of_counts section) n

    pub row_words_lem : gather (cell_of N M section i) (width_of N M section)
        ≡ gather (word_at (entry_word sheet numbers section (row_key net sheet (of_counts section) n) (new_key net found' (of_counts section) i)) (run_from sheet (row_key net sheet
        (of_counts section) n)))
        (row_size net sheet (of_counts section) n)
    unfolding row_size
    row_words_lem = rw (width_is section) (run-words rises whole (cell_of N M section i) _ old (row_width net (of_counts section)) (cell section))

    -- as many as it has entries
    pub row-length : row_size net sheet (of_counts section) n ≡ length (gather (cell_of N M section i) (width_of N M section))
    row-length = sym (ap length row_words_lem ∙ words-length _ _ _)

    pub row-few : row_size net sheet (of_counts section) n ≤ 32
    row-few =
        omega (arith, row-length, gather-length (cell_of N M section i) (width_of N M section), count-le (finds (cell_of N M section i)) (width_of N M section), few-columns section)

    -- each of its entries has a word
    pub worded : {k : ℕ} → k < row_size net sheet (of_counts section) n
        → Worded sheet section (row_key net sheet (of_counts section) n) (new_key net found' (of_counts section) i) (run_from sheet (row_key net sheet (of_counts section) n) + k)
    worded {k} l =
        let p = bound rises whole old in
        let q = bound rises whole (old + row_width net (of_counts section)) in
        let m : k < run_from sheet (old + row_width net (of_counts section)) - run_from sheet old = unfold row_size run_size in l in
        let low : get_or sheet (2 + (run_from sheet old + k)) 0 < old + row_width net (of_counts section) = unfold key_at in (q.below (run_from sheet old + k) (omega arith)) in
        record {
          whole = sizes.long;
          within = omega (arith, q.within);
          above = unfold key_at in (p.above (run_from sheet old + k) (omega arith) (omega (arith, q.within)));
          small = omega (arith, new-low (of_counts section), row_low h.readable (of_counts section) h.old);
          target = target_low section l;
        }

-- ---- a loop along the row

module _ {net sheet numbers : List ℕ} {found' n i : ℕ} {section : Section} where
  pub running : {counts : Bool} {old new width from size : ℕ} → NewRow net sheet numbers found' n i → counts ≡ of_counts section → old ≡ row_key net sheet counts n
      → new ≡ new_key net found' counts i → width ≡ row_width net counts → from ≡ run_from sheet old → size ≡ run_size sheet old width
      → Running net sheet numbers found' n i section old new from size
  unfolding row_size
  running r c o w d f z = record {
    row = r;
    old_is = rw c at o;
    new_is = rw c at w;
    from_is = rw (o, c) at f;
    size_is = rw (o, d, c) at z;
  }

  module _ {old new from size : ℕ} (R : Running net sheet numbers found' n i section old new from size) where
    pub running-worded : {k : ℕ} → k < size → Worded sheet section old new (from + k)
    running-worded l = rw (R.from_is, R.old_is, R.new_is) (worded R.row section (rw R.size_is at l))

    pub running_more : (k : ℕ) {word : ℕ} {out : List ℕ} {at next r : ℕ} {out₁ out₂ : List ℕ} → word ≡ entry_word sheet numbers section old new (from + k)
        → Appended out at (gather (word_at (entry_word sheet numbers section old new) from) k) next out₁ → Appended out₁ next (word ∷ []) r out₂
        → Appended out at (gather (word_at (entry_word sheet numbers section old new) from) (k + 1)) r out₂
    unfolding word_at
    running_more k e a b = gathered-hit _ _ a (ap some (sym e)) b

    pub running-all : {k : ℕ} {out out' : List ℕ} {at r : ℕ} → k ≡ size → Appended out at (gather (word_at (entry_word sheet numbers section old new) from) k) r out'
        → Appended out at (gather (cell_of (petri_net net) (minimal (graph (petri_net net) sheet)) section i) (width_of (petri_net net) (minimal (graph (petri_net net) sheet)) section)) r out'
    running-all e a = rw (row_words_lem R.row section, ← R.from_is, ← R.size_is, ← R.old_is, ← R.new_is, ← e) a

-- a row that can be looked for
pub row-keyed : {net sheet : List ℕ} (readable : Readable net sheet) (counts : Bool) {n : ℕ} → n < node_count sheet → Keyed sheet (row_key net sheet counts n) (row_width net counts)
row-keyed {net} {sheet} readable counts l = record {
  rising = words-rise (petri_net net) sheet (words net sheet readable).arcs;
  fits = words-fit (petri_net net) sheet (words net sheet readable).arcs;
  low = row_low readable counts l;
}
