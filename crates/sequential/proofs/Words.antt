-- 6 to 9: the tests decide the clauses, and what is known of words that pass.
use Rattle.refusal.specs.declared.Reason.TheVariants.{ScheduleOrder, ScheduleValue}
use Rattle.scan.proofs.Basics.{ℕ, ◌+◌, ◌≤◌, ◌<◌, arith, ◌≡◌, sym, ap, ◌∙◌, ◌↔◌, Bool, true, false, ltb, eqb, none, List, [], ◌∷◌, ◌++◌, length}
use Rattle.scan.proofs.Tests.{ltb-true, ltb-false, lt-ltb, le-ltb, leb-false, lt-leb, eqb-true, eqb-false, eq-eqb, ne_eqb, by_test, decides_not, or-none-left, or-none-right}
use Rattle.scan.specs.Scan.{or_else, first}
use Rattle.scan.proofs.First.{or_else-assoc}
use Rattle.table.specs.Table.{KeyPasses, Rising}
use Rattle.table.specs.Keys.{key_fails}
use Rattle.table.proofs.Keys.{key-passes, keys-rise}
use Rattle.refusal.specs.Limits.{most_nodes, most_entries, most_count}
use Rattle.refusal.specs.Checks.{◌else◌, Check, each, AllPass}
use Rattle.refusal.specs.Finding.{found_at, found_by, finding}
use Rattle.refusal.specs.declared.Position.TheVariants.{Entry}
use Rattle.refusal.proofs.Checks.{Decides, Decided, Lawful, Tells, finding-tells}
use Rattle.refusal.proofs.Judges.{pass-append, tells-append}
use Rattle.scan.proofs.Decide.{leb↔, and↔}
use Rattle.sequential.specs.Petri.{PetriNet}
use Rattle.sequential.specs.Words.{node_count, entry_count, entry_key, entry_value, arc_keys, key_limit}
use Rattle.sequential.specs.Checks.{ArcValuePasses, ValuePasses, shape_checks, word_checks, arc_word_checks, WordsPass}
use Rattle.sequential.specs.Check.{sizes_pass, shape_tests, target_fails, count_fails, value_fails, arc_value_fails, shape_fault, entry_fault, word_tests, words_fault, arc_words_fault}
use Rattle.sequential.specs.Known.{ShapePasses, ArcsHold, WordsHold}

-- ---- sizes and length

pub sizes↔ : (v k : ℕ) → (sizes_pass v k ≡ true) ↔ ((1 ≤ v) × (v ≤ most_nodes) × (k ≤ most_entries))
unfolding sizes_pass
sizes↔ v k =
    let (f, g) = and↔ {B = (v ≤ most_nodes) × (k ≤ most_entries)} _ _ (leb↔ _ _) (and↔ _ _ (leb↔ _ _) (leb↔ _ _)) in
    (λ e. let (a, (b, c)) = f e in (a, b, c), λ (a, b, c). g (a, (b, c)))

module _ (sheet : List ℕ) where
  shape-tells : Tells (shape_fault sheet) (shape_checks sheet)
  unfolding shape_fault Lawful Decided
  shape-tells = finding-tells Unit (shape_checks sheet) (shape_tests sheet) (
    λ h. (ltb-false _ _, le-ltb _ _),
    (λ h. decides_not _ (sizes↔ _ _).0 (sizes↔ _ _).1, (λ h. decides_not _ (eqb-true _ _) (eq-eqb _ _), tt)),
  ) tt

  shape-hold : AllPass (shape_checks sheet) ↔ ShapePasses sheet
  shape-hold = (
    λ (a, (b, (c, u))). record { some_node = b.0; few_nodes = b.1; few_entries = b.2; whole = c },
    λ s. let w = s.whole in (omega arith, ((s.some_node, s.few_nodes, s.few_entries), (w, tt))),
  )

  pub shape-out : shape_fault sheet ≡ none → ShapePasses sheet
  shape-out h = shape-hold.0 (shape-tells.passes.0 h)

  pub shape-in : ShapePasses sheet → shape_fault sheet ≡ none
  shape-in s = shape-tells.passes.1 (shape-hold.1 s)

-- ---- values

module _ (sheet : List ℕ) (arcs i : ℕ) where
  count-out : count_fails (entry_value sheet i) ≡ false → (1 ≤ entry_value sheet i) × (entry_value sheet i ≤ most_count)
  unfolding count_fails
  count-out h = (omega (arith, eqb-false (entry_value sheet i) 0 (or-none-left (eqb (entry_value sheet i) 0) _ h)), ltb-false _ _ (or-none-right (eqb (entry_value sheet i) 0) _ h))

  count-in : 1 ≤ entry_value sheet i → entry_value sheet i ≤ most_count → count_fails (entry_value sheet i) ≡ false
  unfolding count_fails
  count-in a b = rw (ne_eqb (entry_value sheet i) 0 (λ e. omega arith), le-ltb most_count (entry_value sheet i) b)

  pub value_passes : (value_fails sheet arcs i ≡ false) ↔ ValuePasses sheet arcs i
  unfolding value_fails target_fails
  value_passes = (
    λ h. record {
      target = λ l. leb-false _ _ (rw (lt-ltb _ _ l) at h);
      some = λ l. (count-out (rw (le-ltb (entry_key sheet i) arcs l) at h)).0;
      most = λ l. (count-out (rw (le-ltb (entry_key sheet i) arcs l) at h)).1;
    },
    λ v. by_test (ltb (entry_key sheet i) arcs) (λ e. rw (e, lt-leb (node_count sheet) (entry_value sheet i) (v.target (ltb-true _ _ e))))
        (λ e. rw e (count-in (v.some (ltb-false _ _ e)) (v.most (ltb-false _ _ e)))),
  )

  pub arc-value-passes : (arc_value_fails sheet arcs i ≡ false) ↔ ArcValuePasses sheet arcs i
  unfolding arc_value_fails target_fails
  arc-value-passes = (
    λ h l. leb-false _ _ (rw (lt-ltb _ _ l) at h),
    λ v. by_test (ltb (entry_key sheet i) arcs) (λ e. rw (e, lt-leb (node_count sheet) (entry_value sheet i) (v (ltb-true _ _ e)))) (λ e. rw e),
  )

-- ---- the words, for any clause of an entry's value and its test

module _ (N : PetriNet) (sheet : List ℕ) (Value : ℕ → Type 0) where
  abbrev entries : List Check
  entries = each (entry_count sheet) Entry (KeyPasses sheet 2 (key_limit N sheet) else ScheduleOrder ∷ Value else ScheduleValue ∷ []) ∷ []

  entries-hold : AllPass (shape_checks sheet ++ entries)
      ↔ (ShapePasses sheet × ((i : ℕ) → i < entry_count sheet → KeyPasses sheet 2 (key_limit N sheet) i) × ((i : ℕ) → i < entry_count sheet → Value i))
  entries-hold =
      let (f, g) = pass-append (shape_checks sheet) entries in (
        λ p. let (a, (d, u)) = f p in ((shape-hold sheet).0 a, λ i l. (d i l).0, λ i l. (d i l).1.0),
        λ (s, k, v). g ((shape-hold sheet).1 s, (λ i l. (k i l, (v i l, tt)), tt)),
      )

  module _ (fails : ℕ → Bool) (decided : (i : ℕ) → (fails i ≡ false) ↔ Value i) where
    -- the functions' parts, one after the other
    parts : finding (shape_checks sheet ++ entries) (word_tests N sheet fails) ≡ or_else (shape_fault sheet) (first (entry_fault sheet (key_limit N sheet) fails) (entry_count sheet))
    unfolding shape_fault entry_fault finding found_by found_at
    parts = sym (or_else-assoc _ _ _ ∙ ap (or_else _) (or_else-assoc _ _ _))

    entries-tell : Tells (first (entry_fault sheet (key_limit N sheet) fails) (entry_count sheet)) entries
    unfolding entry_fault finding found_by found_at Lawful Decided Decides
    entries-tell =
        finding-tells Unit entries ((key_fails sheet 2 (key_limit N sheet) ∷ fails ∷ []) ∷ []) (λ h i l. (key-passes sheet 2 (key_limit N sheet) i, λ k. (decided i, λ v. tt)), tt) tt

    tell : Tells (finding (shape_checks sheet ++ entries) (word_tests N sheet fails)) (shape_checks sheet ++ entries)
    tell = rw parts (tells-append _ _ (shape_checks sheet) entries (shape-tells sheet) (λ p. entries-tell))

module _ (N : PetriNet) (sheet : List ℕ) where
  pub words-tell : Tells (words_fault N sheet) (word_checks N sheet)
  unfolding words_fault
  words-tell = tell N sheet _ _ (value_passes sheet (arc_keys N sheet))

  pub words-fault : words_fault N sheet ≡ or_else (shape_fault sheet) (first (entry_fault sheet (key_limit N sheet) (value_fails sheet (arc_keys N sheet))) (entry_count sheet))
  unfolding words_fault
  words-fault = parts N sheet _ _ (value_passes sheet (arc_keys N sheet))

  pub arcs-tell : Tells (arc_words_fault N sheet) (arc_word_checks N sheet)
  unfolding arc_words_fault
  arcs-tell = tell N sheet _ _ (arc-value-passes sheet (arc_keys N sheet))

  pub arcs-fault : arc_words_fault N sheet ≡ or_else (shape_fault sheet) (first (entry_fault sheet (key_limit N sheet) (arc_value_fails sheet (arc_keys N sheet))) (entry_count sheet))
  unfolding arc_words_fault
  arcs-fault = parts N sheet _ _ (arc-value-passes sheet (arc_keys N sheet))

  -- ---- what they hold

  pub arcs-hold : AllPass (arc_word_checks N sheet) → ArcsHold N sheet
  arcs-hold p = let (s, k, v) = (entries-hold N sheet _).0 p in record { shape = s; keys = k; targets = v }

  pub words-hold : WordsPass N sheet → WordsHold N sheet
  words-hold p = let (s, k, v) = (entries-hold N sheet _).0 p in record { arcs = record { shape = s; keys = k; targets = λ i l. (v i l).target }; values = v }

  pub words_pass : WordsHold N sheet → WordsPass N sheet
  words_pass w = (entries-hold N sheet _).1 (w.arcs.shape, w.arcs.keys, w.values)

  pub arcs-out : arc_words_fault N sheet ≡ none → ArcsHold N sheet
  arcs-out h = arcs-hold (arcs-tell.passes.0 h)

  pub arcs-in : ArcsHold N sheet → arc_words_fault N sheet ≡ none
  arcs-in w = arcs-tell.passes.1 ((entries-hold N sheet _).1 (w.shape, w.keys, w.targets))

  pub words-out : words_fault N sheet ≡ none → WordsHold N sheet
  words-out h = words-hold (words-tell.passes.0 h)

  -- the keys rise, and lie within the words
  pub words-rise : ArcsHold N sheet → Rising sheet 2 (entry_count sheet)
  words-rise w = keys-rise sheet 2 (key_limit N sheet) (entry_count sheet) w.keys

  pub words-fit : ArcsHold N sheet → 2 + entry_count sheet ≤ length sheet
  words-fit w = omega (arith, w.shape.whole)
