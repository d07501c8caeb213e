-- Counts fit exactly if some schedule has these arcs, and then the mended words are the only such schedule; so the tests decide the checks.
use Rattle.refusal.specs.declared.Reason.TheVariants.{NoCountsFit}
use Rattle.scan.proofs.Basics.{ℕ, ◌<◌, arith, ◌≡◌, refl, sym, ap, subst, ◌∙◌, ◌↔◌, true, not, List, ◌++◌}
use Rattle.scan.specs.Scan.{or_else, when, first}
use Rattle.scan.proofs.Tests.{decides_not}
use Rattle.scan.proofs.First.{first_one}
use Rattle.automaton.specs.Automaton.{Automaton, Closed}
use Rattle.refusal.specs.Refusal.{refusal}
use Rattle.refusal.specs.Checks.{AllPass}
use Rattle.refusal.specs.Finding.{found_by, line_finds, finding}
use Rattle.refusal.specs.declared.Position.TheVariants.{Nothing}
use Rattle.refusal.proofs.Checks.{Decides, Decided, Lawful, Tells, finding-tells}
use Rattle.refusal.proofs.Judges.{Judges, judges-found, judges-then, tells-append, pass-append}
use Rattle.net.specs.Checks.{net_checks}
use Rattle.net.specs.Check.{net_reply}
use Rattle.net.proofs.Checks.{net-judged}
use Rattle.net.proofs.Laws.{sizes}
use Rattle.sequential.specs.Petri.{PetriNet, petri_net}
use Rattle.sequential.specs.Words.{node_count, graph}
use Rattle.sequential.specs.Schedule.{OneChoiceSet, IsSchedule}
use Rattle.sequential.specs.Checks.{arc_word_checks, sheet_checks}
use Rattle.sequential.specs.Check.{node_fault, root_fault, reach_fault, return_fault}
use Rattle.sequential.specs.Known.{ArcsHold, WordsHold}
use Rattle.sequential.proofs.Words.{arcs-hold, arcs-tell as words-tell}
use Rattle.sequential.proofs.Entries.{graph-closed}
use Rattle.sequential.proofs.Clauses.{await↔, some_out, one_out, one-some, one_in}
use Rattle.sequential.proofs.Faults.{reached↔, leads↔, offers-in}
use Rattle.sequential.proofs.Accepted.{sheet-schedule}
use Rattle.encoding.specs.Encoding.{encode}
use Rattle.encoding.proofs.Encoded.{encoded-passes}
use Rattle.encoding.proofs.Reading.{graph-confined}
use Rattle.encoding.proofs.Decoded.{decode_encode}
use Rattle.encoding.proofs.Recoded.{encode_decode, decoded-encodable}
use Rattle.mended.specs.Arcs.{SameArcs, CountsExist}
use Rattle.mended.specs.Counts.{mended_graph, counts_fit}
use Rattle.mended.specs.Checks.{arc_checks, mend_checks}
use Rattle.mended.specs.Mend.{arc_tests, arcs_fault, mend_fault, mend_verdict}
use Rattle.mended.proofs.Bare.{same-sym, same-reachable, same-choices, same-awaits, same-returns}
use Rattle.mended.proofs.Mended.{ArcsPass, mended-same, mended-is, counts-fit, mended-encodable, mended-schedule}

abbrev pub mended : PetriNet → List ℕ → List ℕ
mended N sheet = encode N (mended_graph N (graph N sheet))

closed_same : (A B : Automaton) → SameArcs A B → Closed B → Closed A
closed_same A B s d = record {
  root = rw s.nodes d.root;
  lands = λ n t m l e. rw s.nodes (d.lands n t m (rw s.nodes at l) (sym (s.arcs n t) ∙ e));
  bounded = λ n t l. s.arcs n t ∙ d.bounded n t (rw s.transitions at l);
}

module _ (N : PetriNet) (T : 0 < N.transitions) (P : 0 < N.places) (sheet : List ℕ) where
  -- ---- a schedule with these arcs

  module _ (other : List ℕ) (a : AllPass (sheet_checks N other)) (s : SameArcs (graph N sheet) (graph N other)) where
    words : WordsHold N other
    words = ((sheet-schedule N other T).0 a).0

    schedule : IsSchedule N (graph N other)
    schedule = ((sheet-schedule N other T).0 a).1

    other-closed : Closed (graph N other)
    other-closed = graph-closed N other T words.arcs

    closed : Closed (graph N sheet)
    closed = closed_same (graph N sheet) (graph N other) s other-closed

    graph_is : mended_graph N (graph N sheet) ≡ graph N other
    graph_is = mended-is N (graph N sheet) (graph N other) s closed other-closed (graph-confined N other) refl schedule

    -- it is the mended one
    pub other-is : other ≡ mended N sheet
    other-is = sym (encode_decode N other T P words) ∙ ap (encode N) (sym graph_is)

    fit : counts_fit N (graph N sheet) ≡ true
    fit = counts-fit N (graph N sheet) (graph N other) s closed other-closed (graph-confined N other) refl schedule (decoded-encodable N other T P words)

  -- ---- the mended words

  module _ (w : ArcsHold N sheet) (g : ArcsPass N (graph N sheet)) (h : counts_fit N (graph N sheet) ≡ true) where
    pub mended-graph : graph N (mended N sheet) ≡ mended_graph N (graph N sheet)
    mended-graph = decode_encode N (mended_graph N (graph N sheet)) T (mended-encodable N sheet T w h)

    pub mended-passes : AllPass (sheet_checks N (mended N sheet))
    mended-passes =
        (sheet-schedule N (mended N sheet) T).1 (
          encoded-passes N (mended_graph N (graph N sheet)) (mended-encodable N sheet T w h),
          subst (IsSchedule N) (sym mended-graph) (mended-schedule N sheet T w h g),
        )

    pub mended-arcs : SameArcs (graph N sheet) (graph N (mended N sheet))
    mended-arcs = subst (SameArcs (graph N sheet)) (sym mended-graph) (mended-same N (graph N sheet))

  -- 25
  pub fit↔ : ArcsHold N sheet → ArcsPass N (graph N sheet) → (counts_fit N (graph N sheet) ≡ true) ↔ CountsExist N sheet
  fit↔ w g = (λ h. (mended N sheet, mended-passes w g h, mended-arcs w g h), λ (other, a, s). fit other a s)

-- ---- the checks

module _ (N : PetriNet) (T : 0 < N.transitions) (P : 0 < N.places) (sheet : List ℕ) where
  module _ (w : ArcsHold N sheet) where
    arcs-lawful : Lawful Unit (arc_checks N sheet) (arc_tests N sheet)
    unfolding Lawful Decided Decides
    arcs-lawful = (
      λ h n l. (
        decides_not _ (λ e. let (t, k, o) = some_out N (graph N sheet) n e in (t, o)) (λ (t, o). offers-in N sheet T w n t o),
        λ (t, o). (decides_not _ (one_out N (graph N sheet) n (offers-in N sheet T w n t o)) (one_in N (graph N sheet) n), λ x. tt),
      ),
      (
        λ h n l. (decides_not _ (await↔ N (graph N sheet) n).0 (await↔ N (graph N sheet) n).1, λ x. tt),
        (
          λ h n l. (decides_not _ (reached↔ N sheet T w n).0 (reached↔ N sheet T w n).1, λ x. tt),
          (
            λ h n l. (decides_not _ (leads↔ N sheet T w n l).0 (leads↔ N sheet T w n l).1, λ x. tt),
            (
              λ ((((u, a), b), c), d). let (f, g) = fit↔ N T P sheet w (record {
                choices = λ n l. (a n l).1.0;
                root_awaits = (b 0 (omega arith)).0;
                reached = λ n l. (c n l).0;
                returns = λ n l. (d n l).0;
              }) in decides_not _ f g,
              tt,
            ),
          ),
        ),
      ),
    )

    pub arcs-tell : Tells (arcs_fault N sheet) (arc_checks N sheet)
    unfolding arcs_fault
    arcs-tell = finding-tells Unit (arc_checks N sheet) (arc_tests N sheet) arcs-lawful tt

  -- where some counts fit, all of them pass
  pub arcs-exist : AllPass (arc_word_checks N sheet) → CountsExist N sheet → AllPass (mend_checks N sheet)
  arcs-exist p (other, a, s) =
      let i = ((sheet-schedule N other T).0 a).1 in
      let r = same-sym (graph N sheet) (graph N other) s in
      let node : (n : ℕ) → n < node_count sheet → n < node_count other = λ n l. rw s.nodes at l in
      let one : (n : ℕ) → n < node_count sheet → OneChoiceSet N (graph N sheet) n = λ n l. same-choices (graph N other) (graph N sheet) r N n (i.choices n (node n l)) in
      (pass-append (arc_word_checks N sheet) (arc_checks N sheet)).1 (
        p,
        (
          λ n l. (let (t, k, o) = some_out N (graph N sheet) n (one-some N (graph N sheet) n (one n l)) in (t, o), (one n l, tt)),
          (
            λ n l. let z : n ≡ 0 = omega arith in rw z (same-awaits (graph N other) (graph N sheet) r N 0 i.root_awaits, tt),
            (
              λ n l. (same-reachable (graph N other) (graph N sheet) r n (i.reached n (node n l)), tt),
              (λ n l. (same-returns (graph N other) (graph N sheet) r N n (i.returns n (node n l)), tt), ((other, a, s), tt)),
            ),
          ),
        ),
      )

  pub mend-tells : Tells (mend_fault N sheet) (mend_checks N sheet)
  unfolding mend_fault
  mend-tells = tells-append _ _ (arc_word_checks N sheet) (arc_checks N sheet) (words-tell N sheet) (λ p. arcs-tell (arcs-hold N sheet p))

pub mend-judged : (net sheet : List ℕ) → Judges (mend_verdict net sheet) (net_checks net ++ mend_checks (petri_net net) sheet)
unfolding mend_verdict
mend-judged net sheet =
    judges-then (net_reply net) _ (net_checks net) (mend_checks (petri_net net) sheet) (net-judged net)
    (λ p. let z = sizes net ((net-judged net).accepts.1 p) in
    judges-found _ (mend_checks (petri_net net) sheet) (mend-tells (petri_net net) z.some_transition z.some_place sheet))

-- ---- in the parts that the code has

pub arcs-fault : (N : PetriNet) (sheet : List ℕ) → arcs_fault N sheet
    ≡ or_else (first (node_fault N sheet) (node_count sheet)) (or_else (root_fault N sheet) (or_else (first (reach_fault N sheet) (node_count sheet))
    (or_else (first (return_fault N sheet) (node_count sheet)) (when (not (counts_fit N (graph N sheet))) (refusal NoCountsFit Nothing)))))
unfolding arcs_fault finding found_by node_fault root_fault reach_fault return_fault line_finds
arcs-fault N sheet = rw (first_one)
