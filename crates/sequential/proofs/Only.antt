-- A net with one source left: what is removed, which checks of a schedule's words and arcs do not depend on it, and which choice sets are left.
use Rattle.std.specs.Prelude.{Err, Ok}
use Rattle.refusal.specs.Refusal.{Verdict}
use Rattle.scan.proofs.Basics.{ℕ, ◌<◌, arith, ◌≡◌, refl, sym, ◌∙◌, ap, inl, inr, ⊎_elim, ◌↔◌, Bool, true, false, not, ◌&&◌, ltb, eqb, List}
use mathlib.Core.Path.{fun_ext}
use Rattle.scan.proofs.Tests.{ltb-true, le-ltb, eqb-true, eq-eqb, ne_eqb, by_test, true-false, not-true→false, and_left, and_right, and-true}
use Rattle.scan.specs.Scan.{least}
use Rattle.scan.proofs.Decide.{equal↔}
use Rattle.scan.proofs.Least.{least-unique}
use Rattle.automaton.specs.Automaton.{Automaton}
use Rattle.automaton.specs.Equivalence.{leader_by}
use Rattle.automaton.proofs.Leader.{leader-ext, leader-member}
use Rattle.refusal.specs.Finding.{line_finds}
use Rattle.refusal.specs.Verdict.{verdict_of, and_then}
use Rattle.net.specs.Net.{transition_count}
use Rattle.net.specs.Check.{net_reply}
use Rattle.net.proofs.Laws.{sizes}
use Rattle.sequential.specs.Petri.{PetriNet, petri_net, initial, Source, SharesPlace, SameChoice, fire, fired_count}
use Rattle.sequential.specs.Schedule.{Offers, Await, OneChoiceSet}
use Rattle.sequential.specs.Words.{arc_entry, arc, arc_keys, key_limit, count_at, marking, graph, is_arc, arc_node, arc_transition}
use Rattle.sequential.specs.Tests.{holds_enough, holds_taken, room_at, has_room, takes_nothing, is_source, same_choice}
use Rattle.sequential.specs.Only.{is_source_of, is_removed, only}
use Rattle.sequential.specs.Check.{words_fault, start_fault, arc_fault, reach_fault, arc_holds, arc_has_room, lands_at, arc_lands, schedule_fault, schedule_reply, task_reply}
use Rattle.sequential.proofs.Choices.{source↔, choice↔, choice-sym, choice-kept, choice-equivalence, source-choice}

alone : (k x e : Bool) → (e ≡ true → (k && x) ≡ true) → ((k && not ((k && x) && not e)) && x) ≡ e
alone true true true h = refl
alone true true false h = refl
alone true false true h = h refl
alone true false false h = refl
alone false x true h = h refl
alone false x false h = refl

module _ (N : PetriNet) (s : ℕ) where
  -- ---- the whole net

  pub only-whole : is_source_of N s ≡ false → only N s ≡ N
  unfolding is_removed
  only-whole h =
      ap (λ (k : ℕ → Bool). record { places = N.places; transitions = N.transitions; taken = N.taken; put = N.put; start = N.start; capacity = N.capacity; kept = k })
      (fun_ext (λ t. rw h (and-true (N.kept t))))

  -- ---- the words, the graph, and what is found at places, arcs and nodes that the root does not lead to

  module _ (sheet : List ℕ) where
    pub words-only : words_fault (only N s) sheet ≡ words_fault N sheet
    unfolding words_fault key_limit arc_keys
    words-only = refl

    pub graph-only : graph (only N s) sheet ≡ graph N sheet
    unfolding arc arc_entry marking count_at arc_keys
    graph-only = refl

    pub start-only : start_fault (only N s) sheet ≡ start_fault N sheet
    unfolding start_fault line_finds count_at arc_keys
    start-only = refl

    pub arc-only : arc_fault (only N s) sheet ≡ arc_fault N sheet
    unfolding arc_fault line_finds is_arc arc_holds arc_has_room lands_at arc_lands holds_taken holds_enough has_room room_at fire fired_count arc_node arc_transition marking count_at arc_keys
    arc-only = refl

    pub reach-only : reach_fault (only N s) sheet ≡ reach_fault N sheet
    unfolding reach_fault line_finds arc arc_entry marking count_at arc_keys
    reach-only = refl

  -- ---- firing

  pub initial-only : initial (only N s) ≡ initial N
  unfolding initial
  initial-only = refl

  pub fire-only : (m : List ℕ) (t : ℕ) → fire (only N s) m t ≡ fire N m t
  unfolding fire fired_count
  fire-only m t = refl

  -- ---- sources and choice sets

  pub kept_whole : (t : ℕ) → (only N s).kept t ≡ true → N.kept t ≡ true
  kept_whole t h = and_left (N.kept t) _ h

  -- only sources are removed
  pub kept_on : (t : ℕ) → is_source N t ≡ false → (only N s).kept t ≡ N.kept t
  unfolding is_removed
  kept_on t h = rw h (by_test (is_source_of N s) (λ e. rw e (and-true (N.kept t))) (λ e. rw e (and-true (N.kept t))))

  -- and what draws on a place is none
  draws : (t u : ℕ) → SharesPlace N t u → is_source N u ≡ false
  draws t u (p, l, a, b) = not-true→false (is_source N u) (λ e. let z = ((source↔ N u).0 e).1 p l in omega arith)

  -- the choice sets of those that are no sources are as they were
  same-choice : (t u : ℕ) → is_source N u ≡ false → same_choice (only N s) t u ≡ same_choice N t u
  same-choice t u h = equal↔ _ _ (choice↔ (only N s) t u) (choice↔ N t u) (
    ⊎_elim inl (λ (i, j, a, c). inr (kept_whole t i, kept_whole u j, a, λ v (l, k) z. c v (l, kept_on v (draws t v z) ∙ k) z)),
    ⊎_elim inl (λ (i, j, a, c). inr (kept_on t (alike i j a) ∙ i, kept_on u h ∙ j, a, λ v (l, k) z. c v (l, kept_whole v k) z)),
  )
    where
      alike : N.kept t ≡ true → N.kept u ≡ true → ((p : ℕ) → p < N.places → N.taken t p ≡ N.taken u p) → is_source N t ≡ false
      alike i j a = not-true→false (is_source N t) (λ e. let (k, f) = (source↔ N t).0 e in true-false (is_source N u) ((source↔ N u).1 (j, λ p l. sym (a p l) ∙ f p l)) h)

  -- a set that has no source is one of the whole net
  pub other-choice : (t : ℕ) → is_source N t ≡ false → ((u : ℕ) → SameChoice (only N s) t u → SameChoice N t u) × ((u : ℕ) → SameChoice N t u → SameChoice (only N s) t u)
  other-choice t h = (
    λ u c. choice-sym N u t ((choice↔ N u t).0 (sym (same-choice u t h) ∙ (choice↔ (only N s) u t).1 (choice-sym (only N s) t u c))),
    λ u c. choice-sym (only N s) u t ((choice↔ (only N s) u t).0 (same-choice u t h ∙ (choice↔ N u t).1 (choice-sym N t u c))),
  )

  pub leader-on : (t : ℕ) → is_source N t ≡ false → leader_by (same_choice (only N s)) t ≡ leader_by (same_choice N) t
  leader-on t h = leader-ext (same_choice (only N s)) (same_choice N) t (λ u l. same-choice u t h)

  module _ (one : is_source_of N s ≡ true) where
    below : s < N.transitions
    unfolding is_source_of
    below = ltb-true s N.transitions (and_left (ltb s N.transitions) _ one)

    is-source : is_source N s ≡ true
    unfolding is_source_of
    is-source = and_right (ltb s N.transitions) _ one

    -- s is the only source
    pub source-only : (t : ℕ) → is_source (only N s) t ≡ eqb t s
    unfolding is_source is_removed takes_nothing
    source-only t = rw one (alone (N.kept t) _ (eqb t s) (λ e. rw (eqb-true t s e) is-source))

    pub kept-one : (only N s).kept s ≡ true
    kept-one = ((source↔ (only N s) s).0 (source-only s ∙ eq-eqb s s refl)).0

    pub removed-others : (t : ℕ) → is_source N t ≡ true → (t ≡ s → ⊥) → (only N s).kept t ≡ false
    removed-others t h d = not-true→false ((only N s).kept t)
        (λ k. d (eqb-true t s (sym (source-only t) ∙ (source↔ (only N s) t).1 (k, ((source↔ N t).0 h).1))))

    pub least-only : least (is_source (only N s)) N.transitions ≡ s
    least-only = least-unique (is_source (only N s)) N.transitions s (record {
      within = omega (arith, below);
      hit = λ l. source-only s ∙ eq-eqb s s refl;
      low = λ t l. source-only t ∙ ne_eqb t s (λ e. omega arith);
    })

    pub leader-one : leader_by (same_choice (only N s)) s ≡ s
    leader-one =
        let M = only N s in
        let c = leader_by (same_choice M) s in
        let E = choice-equivalence M in
        let m : same_choice M s c ≡ true = E.symmetric c s (leader-member (same_choice M) E s) in
        eqb-true c s (sym (source-only c) ∙ sym (source-choice M s c (source-only s ∙ eq-eqb s s refl)) ∙ m)

-- ---- what is said of a schedule of such a net

module _ (N : PetriNet) (s : ℕ) (A : Automaton) where
  -- a node with an arc of a removed transition offers no choice set: 12
  pub removed-torn : (n t : ℕ) → t < N.transitions → (only N s).kept t ≡ false → Offers (only N s) A n t → OneChoiceSet (only N s) A n → ⊥
  removed-torn n t l e o (u, (k, i), h) = true-false ((only N s).kept t) (choice-kept (only N s) u t i ((h t l).0 o)) e

  -- an await node offers s and nothing else
  pub await-one : is_source_of N s ≡ true → (n : ℕ) → Await (only N s) A n ↔ ((t : ℕ) → t < N.transitions → Offers (only N s) A n t ↔ (t ≡ s))
  await-one one n = (
    λ h t l. (λ o. (is t).0 ((h t l).0 o), λ q. (h t l).1 ((is t).1 q)),
    λ h t l. (λ o. (is t).1 ((h t l).0 o), λ q. (h t l).1 ((is t).0 q)),
  )
    where
      is : (t : ℕ) → Source (only N s) t ↔ (t ≡ s)
      is t = (λ q. eqb-true t s (sym (source-only N s one t) ∙ (source↔ (only N s) t).1 q), λ q. (source↔ (only N s) t).0 (source-only N s one t ∙ eq-eqb t s q))

-- ---- the reply

-- 32 is the number of no transition
pub whole-reply : (net sheet : List ℕ) → task_reply net 32 sheet ≡ schedule_reply net sheet
unfolding task_reply schedule_reply
whole-reply net sheet = go (net_reply net) refl
  where
    go : (v : Verdict) → net_reply net ≡ v → and_then (net_reply net) (verdict_of (schedule_fault (only (petri_net net) 32) sheet)) ≡ and_then (net_reply net) (verdict_of
        (schedule_fault (petri_net net) sheet))
    go (Ok tt) h =
        let few = (sizes net h).few_transitions in
        ap (λ (N : PetriNet). and_then (net_reply net) (verdict_of (schedule_fault N sheet)))
        (only-whole (petri_net net) 32 (unfold is_source_of in (rw (le-ltb 32 (transition_count net) (omega arith)))))
    go (Err r) h = rw h
