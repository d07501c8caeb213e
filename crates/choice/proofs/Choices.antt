-- The table of choice sets: what the loops over rows of weights find, and what is known of a set from its least transition.
use Rattle.scan.proofs.Basics.{ℕ, ◌≤◌, ◌<◌, arith, ◌≡◌, refl, subst, sym, ap, ◌∙◌, true, false, cond, ltb, eqb, List, length, get_or, set, get_or-set_same, get_or-set_other}
use Prim.Native.Nat.{min}
use Rattle.scan.proofs.Tests.{ltb-true, ltb-false, lt-ltb, le-ltb, eqb-true, eqb-false, eq-eqb, ne_eqb, by_test, iff→eq, true-false, not-true→false}
use Rattle.scan.specs.Scan.{all, least}
use Rattle.scan.proofs.Every.{all-out, all_in, all-fails}
use Rattle.scan.proofs.Least.{least-hit, least-low, least-of, least-ext}
use Rattle.net.specs.Net.{place_count}
use Rattle.net.specs.Accessors.{taken_row_reply}
use Rattle.automaton.specs.Equivalence.{leader_by, same_class}
use Rattle.automaton.proofs.Leader.{leader-test, leader-le, leader-least, leader-member}
use Rattle.sequential.specs.Petri.{PetriNet}
use Rattle.sequential.specs.Tests.{takes_nothing, is_source, takes_alike, takes_same, both_draw, shares_place, shares_alike, free_choice, same_choice}
use Rattle.sequential.proofs.Choices.{choice↔, choice-sym, choice-kept, choice-equivalence, source-choice, leader-free, leader-together, leader-alone}
use Rattle.sequential.specs.Only.{is_source_of, only}
use Rattle.sequential.proofs.Only.{only-whole, kept_on, leader-on, kept-one, removed-others, leader-one, least-only}
use Rattle.choice.specs.Rows.{net_by_rows}
use Rattle.choice.specs.Choices.{choice_of, left_of, first_source, ChoicesOf, Noted, NotedAfter, equal_at, zero_at, weighs_at, both_at, rows_fit, FirstPlaces}

-- ---- rows of weights

pub few-by-rows : (net : List ℕ) → (net_by_rows net).transitions ≤ 32
unfolding net_by_rows
few-by-rows net = omega arith

module _ (net : List ℕ) (places : ℕ) (all_of : places ≡ min (place_count net) 32) where
  pub alike-told : (t u : ℕ) (a b : List ℕ) → a ≡ taken_row_reply net t → b ≡ taken_row_reply net u → all (equal_at a b) places ≡ takes_same (net_by_rows net) t u
  unfolding net_by_rows takes_same takes_alike equal_at
  alike-told t u a b e f = rw (all_of, e, f)

  -- those that take the same draw on the same place first
  pub first-told : {firsts : List ℕ} → FirstPlaces net firsts → (t u : ℕ) → t < (net_by_rows net).transitions → u < (net_by_rows net).transitions
      → takes_same (net_by_rows net) t u ≡ true → get_or firsts t 0 ≡ get_or firsts u 0
  unfolding net_by_rows takes_same takes_alike weighs_at
  first-told f t u l m h =
      f.first t l ∙ least-ext _ _ _ (λ p k. ap (ltb 0) (eqb-true (get_or (taken_row_reply net t) p 0) (get_or (taken_row_reply net u) p 0) (all-out _ _ h p k))) ∙ sym (f.first u m)

  pub fit-told : (t u : ℕ) (a b : List ℕ) → a ≡ taken_row_reply net t → b ≡ taken_row_reply net u → rows_fit a b places ≡ shares_alike (net_by_rows net) t u
  unfolding net_by_rows shares_alike shares_place both_draw takes_same takes_alike rows_fit both_at equal_at
  fit-told t u a b e f = rw (all_of, e, f)

  pub source_told : (t : ℕ) (row : List ℕ) → row ≡ taken_row_reply net t → all (zero_at row) places ≡ is_source (net_by_rows net) t
  unfolding net_by_rows is_source takes_nothing zero_at
  source_told t row e = rw (all_of, e)

  -- a transition draws on no place first exactly if it takes nothing
  pub none_first : {firsts : List ℕ} → FirstPlaces net firsts → (t : ℕ) → t < (net_by_rows net).transitions → places ≤ get_or firsts t 0
      → (p : ℕ) → p < places → get_or (taken_row_reply net t) p 0 ≡ 0
  unfolding net_by_rows weighs_at
  none_first f t l h p k =
      let q = f.first t l in
      let low : get_or (taken_row_reply net t) p 0 ≤ 0 = ltb-false 0 (get_or (taken_row_reply net t) p 0) (least-low (weighs_at (taken_row_reply net t)) (min (place_count net) 32) p
      (omega (arith, q))) in
      omega arith

  pub source_first : {firsts : List ℕ} → FirstPlaces net firsts → (t : ℕ) → t < (net_by_rows net).transitions → places ≤ get_or firsts t 0 → is_source (net_by_rows net) t ≡ true
  unfolding net_by_rows is_source takes_nothing
  source_first f t l h = all_in _ _ (λ p k. eq-eqb _ _ (none_first f t l h p (omega (arith, all_of))))

  pub drawing-first : {firsts : List ℕ} → FirstPlaces net firsts → (t : ℕ) → t < (net_by_rows net).transitions → get_or firsts t 0 < places → is_source (net_by_rows net) t ≡ false
  unfolding net_by_rows is_source takes_nothing weighs_at
  drawing-first f t l h =
      let q = f.first t l in
      let i = least (weighs_at (taken_row_reply net t)) (min (place_count net) 32) in
      let m : i < min (place_count net) 32 = omega (arith, q, all_of) in
      let hit : 0 < get_or (taken_row_reply net t) i 0 = ltb-true 0 (get_or (taken_row_reply net t) i 0) (least-hit (weighs_at (taken_row_reply net t)) (min (place_count net) 32) m) in
      all-fails _ _ i m (ne_eqb (get_or (taken_row_reply net t) i 0) 0 (λ e. omega (arith, hit)))

  -- those that take nothing take the same
  pub sources-alike : {firsts : List ℕ} → FirstPlaces net firsts → (t u : ℕ) → t < (net_by_rows net).transitions → u < (net_by_rows net).transitions
      → places ≤ get_or firsts t 0 → places ≤ get_or firsts u 0 → takes_same (net_by_rows net) t u ≡ true
  unfolding net_by_rows takes_same takes_alike
  sources-alike f t u l m h k =
      all_in _ _ (λ p i. let e = none_first f t l h p (omega (arith, all_of)) in let d = none_first f u m k p (omega (arith, all_of)) in eq-eqb _ _ (e ∙ sym d))

pub none-removed : (net : List ℕ) (t : ℕ) → (net_by_rows net).kept t ≡ true
unfolding net_by_rows
none-removed net t = refl

-- ---- what is noted of least transitions

module _ (N : PetriNet) where
  pub nothing-noted : (t : ℕ) → Noted N 0 t
  nothing-noted t = record { free = λ e. absurd (omega arith); not_free = λ e. absurd (omega arith) }

  pub noted_more : (notes : List ℕ) (l v : ℕ) → ((j : ℕ) → j < 32 → Noted N (get_or notes j 0) j) → l < length notes → Noted N v l
      → (j : ℕ) → j < 32 → Noted N (get_or (set notes l v) j 0) j
  noted_more notes l v h m k j i =
      by_test (eqb j l) (λ e. rw (eqb-true j l e) (rw (get_or-set_same notes l v 0 m) k))
      (λ e. rw (get_or-set_other notes l j v 0 (eqb-false j l e)) (h j i))

  -- it tells the least transition of a choice set
  pub noted-choice : ((t : ℕ) → N.kept t ≡ true) → (note leader t : ℕ) → leader ≡ leader_by (takes_same N) t → NotedAfter N note leader t → cond (eqb note 1) leader t ≡ choice_of N t
  unfolding choice_of
  noted-choice k note leader t q n = rw (k t) (by_test (eqb note 1) (λ e. rw e (together (n.noted.free (eqb-true note 1 e)))) (λ e. rw e (apart (eqb-false note 1 e))))
    where
      same : free_choice N leader ≡ free_choice N t
      same = rw q (leader-free N t)

      together : free_choice N leader ≡ true → leader ≡ leader_by (same_choice N) t
      together h = q ∙ sym (leader-together N k t (sym same ∙ h))

      -- whether or not its choice is free, a transition that leads those that take the same leads its choice set
      first : leader ≡ t → t ≡ leader_by (same_choice N) t
      first e = by_test (free_choice N leader) (λ h. sym e ∙ together h) (λ h. sym (leader-alone N t (sym same ∙ h)))

      apart : (note ≡ 1 → ⊥) → t ≡ leader_by (same_choice N) t
      apart d =
          by_test (eqb note 0) (λ z. first (n.asked (eqb-true note 0 z)))
          (λ z. let b = eqb-false note 0 z in sym (leader-alone N t (sym same ∙ n.noted.not_free (omega arith))))

-- ---- least transitions

module _ (N : PetriNet) where
  -- those that are kept have one of their own numbers, which a removed one has not
  pub kept-choice : (t : ℕ) → N.kept t ≡ true → choice_of N t ≤ t
  unfolding choice_of
  kept-choice t k = rw k (leader-le (same_choice N) t)

  pub removed-choice : (t : ℕ) → N.kept t ≡ false → choice_of N t ≡ 32
  unfolding choice_of
  removed-choice t k = rw k

  pub leader-low : {leaders : List ℕ} {source : ℕ} → ChoicesOf N leaders source → (t : ℕ) → t < N.transitions → get_or leaders t 0 < 32 → get_or leaders t 0 ≤ t
  leader-low c t l m =
      let q = c.leaders_are t l in
      by_test (N.kept t) (λ k. omega (arith, q, kept-choice t k)) (λ k. absurd (omega (arith, q, removed-choice t k)))

  pub choice_test : N.transitions ≤ 32 → (t u : ℕ) → u < N.transitions → N.kept u ≡ true → eqb (choice_of N t) (choice_of N u) ≡ same_choice N t u
  unfolding same_class
  choice_test few t u l k = by_test (N.kept t) (λ e. unfold choice_of in (rw (e, k) (leader-test (same_choice N) (choice-equivalence N) t u)))
      (λ e. rw (removed-choice t e) (ne_eqb 32 (choice_of N u) (λ q. omega (arith, kept-choice u k))
      ∙ sym (not-true→false (same_choice N t u) (λ h. true-false (N.kept t) (choice-kept N u t k (choice-sym N t u ((choice↔ N t u).0 h))) e))))

  -- a choice set is the sources exactly if its least transition is the least source
  pub source-test : (t : ℕ) → t < N.transitions → N.kept t ≡ true → eqb (choice_of N t) (first_source N) ≡ is_source N t
  unfolding choice_of first_source
  source-test t l k = rw k (iff→eq (eqb c s) (is_source N t) is-source leads)
    where
      c : ℕ
      c = leader_by (same_choice N) t

      s : ℕ
      s = least (is_source N) N.transitions

      low : c ≤ t
      low = leader-le (same_choice N) t

      member : same_choice N c t ≡ true
      member = leader-member (same_choice N) (choice-equivalence N) t

      is-source : eqb c s ≡ true → is_source N t ≡ true
      is-source e =
          let q = eqb-true c s e in
          let h : is_source N c ≡ true = rw q (least-hit (is_source N) N.transitions (omega (arith, low, q))) in
          sym (source-choice N c t h) ∙ member

      leads : is_source N t ≡ true → eqb c s ≡ true
      leads h =
          let m : same_choice N t c ≡ true = (choice-equivalence N).symmetric c t member in
          let above : s ≤ c = least-of (is_source N) N.transitions c (sym (source-choice N t c h) ∙ m) in
          let below : s < N.transitions = omega (arith, low) in
          let hit : is_source N s ≡ true = least-hit (is_source N) N.transitions below in
          let high : c ≤ s = leader-least (same_choice N) t s (source-choice N s t hit ∙ h) in
          eq-eqb c s (omega arith)

-- ---- one source alone

module _ (N : PetriNet) (whole : (t : ℕ) → N.kept t ≡ true) (s : ℕ) (one : is_source_of N s ≡ true) where
  pub left-choice : (t : ℕ) → t < N.transitions → left_of (choice_of N t) (first_source N) s t ≡ choice_of (only N s) t
  unfolding left_of
  left-choice t l = rw (source-test N t l (whole t)) (by_test (is_source N t)
      (λ h. rw h (by_test (eqb t s) (λ e. rw (e, eqb-true t s e) here) (λ e. rw e (sym (removed-choice (only N s) t (removed-others N s one t h (eqb-false t s e)))))))
      (λ h. rw h (on h)))
    where
      here : s ≡ choice_of (only N s) s
      here = unfold choice_of in (rw (kept-one N s one) (sym (leader-one N s one)))

      on : is_source N t ≡ false → choice_of N t ≡ choice_of (only N s) t
      on h = unfold choice_of in (rw (kept_on N s t h, leader-on N s t h))

  pub left-source : s ≡ first_source (only N s)
  unfolding first_source
  left-source = sym (least-only N s one)

-- given the table of the whole net
module _ (net : List ℕ) {leaders : List ℕ} {source : ℕ} (g : ChoicesOf (net_by_rows net) leaders source) (s : ℕ) where
  abbrev N : PetriNet
  N = net_by_rows net

  test : s < N.transitions → is_source N s ≡ eqb (get_or leaders s 0) source
  test l = sym (rw (g.leaders_are s l, g.source_is) (source-test N s l (none-removed net s)))

  whole : is_source_of N s ≡ false → ChoicesOf (only N s) leaders source
  whole h = subst (λ (M : PetriNet). ChoicesOf M leaders source) (sym (only-whole N s h)) g

  pub past_all : N.transitions ≤ s → ChoicesOf (only N s) leaders source
  past_all l = whole (unfold is_source_of in (rw (le-ltb s N.transitions l)))

  pub no_source : s < N.transitions → (get_or leaders s 0 ≡ source → ⊥) → ChoicesOf (only N s) leaders source
  no_source l d = whole (unfold is_source_of in (rw (lt-ltb s N.transitions l, test l) (ne_eqb _ _ d)))

  module _ (l : s < N.transitions) (e : get_or leaders s 0 ≡ source) where
    one : is_source_of N s ≡ true
    unfolding is_source_of
    one = rw (lt-ltb s N.transitions l, test l) (eq-eqb _ _ e)

    pub left_at : (t : ℕ) → t < N.transitions → left_of (get_or leaders t 0) source s t ≡ choice_of (only N s) t
    left_at t k = rw (g.leaders_are t k, g.source_is) (left-choice N (none-removed net) s one t k)

    pub source-left : s ≡ first_source (only N s)
    source-left = left-source N (none-removed net) s one
