-- The checks in their order, and how they and the counts of the places decide 25.
use Rattle.std.specs.Prelude.{Result, Err, Ok}
use Rattle.refusal.specs.declared.Reason.TheVariants.{NoCountsFit}
use Rattle.scan.proofs.Basics.{ℕ, ◌-◌, ◌≤◌, ◌<◌, arith, ◌≡◌, refl, subst, sym, ap, ◌∙◌, true, not, ltb, Option, none, some, List, length, get_or}
use Rattle.scan.proofs.Tests.{le-leb, eq-eqb, not-false, not-true→false, and_both}
use Rattle.scan.specs.Scan.{or_else, when, first}
use Rattle.scan.proofs.First.{or_else-left, or_else-right, when-hit, when-miss, when-none, first-all}
use Rattle.scan.proofs.Every.{all_in}
use Rattle.scan.proofs.Tabulate.{tabulate-at}
use Rattle.scan.proofs.Count.{bit-mark}
use Rattle.refusal.specs.Limits.{most_entries}
use Rattle.refusal.specs.Refusal.{refusal, Verdict}
use Rattle.refusal.specs.Finding.{found_at, line_finds}
use Rattle.refusal.specs.Verdict.{verdict_alone, verdict_of, and_then}
use Rattle.refusal.specs.declared.Position.TheVariants.{Nothing}
use Rattle.refusal.specs.declared.Refusal.{Refusal}
use Rattle.refusal.proofs.Verdicts.{answer-none, answer-left, verdict-next, then_next, then-refused, then-accepted}
use Rattle.automaton.specs.Automaton.{Automaton}
use Rattle.automaton.specs.Reach.{Reachable, reached_in}
use Rattle.automaton.proofs.Automaton.{arc-cases}
use Rattle.net.specs.Check.{net_reply}
use Rattle.sequential.specs.Petri.{PetriNet, petri_net, initial, fired_count, fire}
use Rattle.sequential.specs.Words.{node_count, graph}
use Rattle.sequential.specs.Tests.{is_await}
use Rattle.sequential.specs.Check.{arc_words_fault, node_fault, root_fault, reach_fault}
use Rattle.sequential.proofs.Clauses.{enabled↔}
use Rattle.sequential.proofs.Faults.{reached↔}
use Rattle.graph.specs.Readable.{arcs_reply, ArcsReadable}
use Rattle.graph.proofs.Readable.{reply-arcs}
use Rattle.choice.specs.Nodes.{NodesAnswer, marks_of, nodes_reply}
use Rattle.choice.proofs.Right.{verdict-right, awaits-right}
use Rattle.reach.specs.Reach.{is_marked, AwaitMarks, paths_reply}
use Rattle.reach.proofs.Demands.{paths-right}
use Rattle.encoding.specs.Encoding.{keys}
use Rattle.encoding.proofs.Encoded.{encoded-entries}
use Rattle.mended.specs.Counts.{worked_out, new_count, mended_graph, lands_at, arc_fits, within_limit, node_fits, counts_fit}
use Rattle.mended.specs.Mend.{mend_fault, mend_verdict}
use Rattle.mended.proofs.Mended.{worked-root, worked-enables, worked-lands, worked-most, few_entries}
use Rattle.mended.proofs.Exact.{arcs-fault}
use Rattle.mended.proofs.Copied.{mended-copied}
use Rattle.mended.proofs.Copied as whole
use Rattle.breadth_first.proofs.Along.{arcs-closed}
use Rattle.mend.specs.Places.{AllFit}
use Rattle.mend.specs.Writing.{entries_of}
use Rattle.mend.specs.Measure.{arcs_verdict, Ready, Measured}
use Rattle.mend.specs.declared.measure.Measure.{Measure}
use Rattle.mend.proofs.Writes.{count-keys}

-- ---- 11 to 13, 16 and 17, as they are asked

module _ (net sheet : List ℕ) where
  pub words-refused : {v : Verdict} {r : Refusal} → v ≡ arcs_reply net sheet → v ≡ Err r → v ≡ arcs_verdict net sheet
  unfolding arcs_verdict
  words-refused e h = e ∙ sym (then-refused (arcs_reply net sheet) _ _ (sym e ∙ h))

  module _ (w : arcs_reply net sheet ≡ Ok tt) {nodes : NodesAnswer} (told : nodes ≡ nodes_reply net sheet) where
    r : ArcsReadable net sheet
    r = reply-arcs net sheet w

    nodes-told : verdict_alone nodes ≡ verdict_of (or_else (first (node_fault (petri_net net) sheet) (node_count sheet)) (root_fault (petri_net net) sheet))
    nodes-told = rw told (verdict-right net sheet r)

    await-marks : verdict_alone nodes ≡ Ok tt → AwaitMarks (petri_net net) sheet (marks_of nodes)
    unfolding is_marked
    await-marks h n l = rw told (ap (ltb 0) (awaits-right net sheet r (rw told at h) n l) ∙ bit-mark (is_await (petri_net net) (graph (petri_net net) sheet) n))

    pub nodes-refused : {r : Refusal} → verdict_alone nodes ≡ Err r → verdict_alone nodes ≡ arcs_verdict net sheet
    unfolding arcs_verdict
    nodes-refused h = answer-left _ _ _ _ nodes-told h ∙ sym (then_next _ _ w)

    pub paths-judged : {v : Verdict} {marks : List ℕ} → nodes ≡ Ok marks → v ≡ paths_reply net sheet marks → v ≡ arcs_verdict net sheet
    unfolding arcs_verdict
    paths-judged {v} {marks} k e =
        let h = ap verdict_alone k in
        e ∙ (paths-right net sheet r).faults marks (rw (ap marks_of k) at (await-marks h)) ∙ sym (verdict-next _ _ (sym nodes-told ∙ h)) ∙ sym (then_next _ _ w)

-- ---- then 25

parts : (v : Verdict) (words nodes root reach return last : Option Refusal) → and_then v (verdict_of (or_else words (or_else nodes (or_else root (or_else reach (or_else return last))))))
    ≡ and_then (and_then (and_then v (verdict_of words)) (verdict_of (or_else (or_else nodes root) (or_else reach return)))) (verdict_of last)
unfolding or_else
parts (Err r) words nodes root reach return last = refl
parts (Ok tt) (some r) nodes root reach return last = refl
parts (Ok tt) none (some r) root reach return last = refl
parts (Ok tt) none none (some r) reach return last = refl
parts (Ok tt) none none none (some r) return last = refl
parts (Ok tt) none none none none (some r) last = refl
parts (Ok tt) none none none none none last = refl

reach-passes : (N : PetriNet) (sheet : List ℕ) (n : ℕ) → reach_fault N sheet n ≡ none → reached_in (graph N sheet) (node_count sheet - 1) n ≡ true
unfolding reach_fault line_finds found_at
reach-passes N sheet n h = not-false _ (when-none _ _ h)

ok_same : {x y : Measure} → ◌≡◌ {A = Result Measure Refusal} (Ok x) (Ok y) → x ≡ y
ok_same e = cc

pub refused-measured : {net sheet : List ℕ} {r : Refusal} {a : Result Measure Refusal} → Err r ≡ mend_verdict net sheet → a ≡ Err r → Measured net sheet a
refused-measured e h = record { reply = ap verdict_alone h ∙ e; ready = λ m q. absurd (let z : ◌≡◌ {A = ℕ} 0 1 = cc in omega arith) }

module _ (net sheet : List ℕ) where
  abbrev N : PetriNet
  N = petri_net net

  abbrev A : Automaton
  A = graph (petri_net net) sheet

  verdict-parts : mend_verdict net sheet ≡ and_then (arcs_verdict net sheet) (verdict_of (when (not (counts_fit N A)) (refusal NoCountsFit Nothing)))
  unfolding mend_verdict mend_fault arcs_verdict arcs_reply
  verdict-parts = rw (arcs-fault N sheet) (parts (net_reply net) (arc_words_fault N sheet) _ _ _ _ _)

  -- refused before the counts
  pub before-refused : {v : Verdict} {r : Refusal} {a : Result Measure Refusal} → v ≡ arcs_verdict net sheet → v ≡ Err r → a ≡ Err r → Measured net sheet a
  before-refused e h = refused-measured (sym h ∙ e ∙ sym (verdict-parts ∙ then-refused _ _ _ (sym e ∙ h)))

  -- ---- what fits at every place fits

  module _ (r : ArcsReadable net sheet) where
    pub entries_are : length (keys (petri_net net) (mended_graph (petri_net net) (graph (petri_net net) sheet))) ≡ entries_of net sheet
    unfolding entries_of
    entries_are =
        sym (encoded-entries N (mended_graph N A)) ∙ ap (λ (x : List ℕ). get_or x 1 0) (mended-copied N sheet r.sizes.some_transition r.holds)
        ∙ unfold whole.copied in (rw (count-keys net sheet r) refl)

    places-fit : AllFit N sheet → entries_of net sheet ≤ most_entries → counts_fit N A ≡ true
    unfolding counts_fit node_fits within_limit
    places-fit fit few =
        and_both _ _ (all_in (node_fits N A) A.nodes (λ n l. and_both _ _ (all_in (within_limit N A n) N.places (λ p k. le-leb _ _ ((fit p k).most n l)))
        (all_in (arc_fits N A n) N.transitions (λ t k. arc n t l)))) (rw entries_are (le-leb _ _ few))
      where
        arc : (n t : ℕ) → n < A.nodes → arc_fits N A n t ≡ true
        arc n t l = unfold arc_fits lands_at new_count fired_count in (arc-cases (A.arc n t) (λ e. rw e) (λ m e. rw e (and_both _ _
            ((enabled↔ N _ _).1 (record { holds = λ p k. unfold new_count in ((fit p k).enabled n t m l e).holds; room = λ p k. unfold new_count in ((fit p k).enabled n t m l e).room }))
            (all_in (lands_at N A n t m) N.places (λ p k. eq-eqb _ _ (unfold new_count in ((fit p k).lands n t m l e)))))))

    module _ (h : counts_fit N A ≡ true) where
      fits-places : AllFit N sheet
      unfolding new_count
      fits-places p k = record {
        start = ap (λ (x : List ℕ). get_or x p 0) (worked-root N A (arcs-closed r)) ∙ unfold initial in (tabulate-at N.start 0 N.places p k);
        enabled = λ n t m l e. let x = worked-enables N A (arcs-closed r) refl h n t m l e in record { holds = x.holds p k; room = x.room p k };
        lands = λ n t m l e. ap (λ (x : List ℕ). get_or x p 0) (worked-lands N A (arcs-closed r) refl h n t m l e)
            ∙ unfold fire fired_count in (tabulate-at (fired_count N (worked_out N A n) t) 0 N.places p k);
        most = λ n l. worked-most N A (arcs-closed r) refl h n p l k;
      }

      fits-entries : entries_of net sheet ≤ most_entries
      fits-entries = rw entries_are at (few_entries N A (arcs-closed r) refl h)

  -- ---- where nothing is refused before the counts

  module _ (a : arcs_verdict net sheet ≡ Ok tt) where
    pub before-readable : ArcsReadable net sheet
    unfolding arcs_verdict
    before-readable = reply-arcs net sheet (then-accepted (arcs_reply net sheet) _ a).0

    pub before-reached : (n : ℕ) → n < node_count sheet → Reachable (graph (petri_net net) sheet) n
    unfolding arcs_verdict
    before-reached n l =
        let h = or_else-left _ _ (or_else-right _ _ (answer-none _ (then-accepted (arcs_reply net sheet) _ a).1)) in
        let r = before-readable in
        (reached↔ N sheet r.sizes.some_transition r.holds n).0 (reach-passes N sheet n (first-all _ _ h n l))

    -- 25: some place does not fit, or the entries are too many
    no_counts : {m : Result Measure Refusal} → (counts_fit N A ≡ true → ⊥) → m ≡ Err (refusal NoCountsFit Nothing) → Measured net sheet m
    no_counts n = refused-measured (sym (verdict-parts ∙ then_next _ _ a ∙ ap verdict_of (when-hit _ _ (ap not (not-true→false _ n)))))

    pub place-measured : {m : Result Measure Refusal} → (AllFit (petri_net net) sheet → ⊥) → m ≡ Err (refusal NoCountsFit Nothing) → Measured net sheet m
    place-measured n = no_counts (λ h. n (fits-places before-readable h))

    pub entries-measured : {m : Result Measure Refusal} → most_entries < entries_of net sheet → m ≡ Err (refusal NoCountsFit Nothing) → Measured net sheet m
    entries-measured l = no_counts (λ h. omega (arith, l, fits-entries before-readable h))

    pub all-measured : {m : Measure} → Ready net sheet m → Measured net sheet (Ok m)
    all-measured {m} q =
        let f = places-fit before-readable q.mendable.fitting.fit (omega (arith, q.entries_are, q.few_entries)) in
        record { reply = sym (verdict-parts ∙ then_next _ _ a ∙ ap verdict_of (when-miss _ _ (ap not f))); ready = λ x e. subst (λ (y : Measure). Ready net sheet y) (ok_same e) q }
