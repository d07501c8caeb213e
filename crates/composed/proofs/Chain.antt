-- The checks of composition: each test decides its clause, and what they find is the check that fails first.
use Rattle.scan.proofs.Basics.{ℕ, zero, suc, ◌<◌, arith, ◌≡◌, refl, sym, subst, ⊎_elim, ◌↔◌, false, not, ltb, eqb, none, List, ◌++◌, length}
use borrow.Author.Tests.{ltb-false, le-ltb, eqb-true, eq-eqb, not-false}
use Rattle.scan.specs.Scan.{first, any}
use Rattle.scan.proofs.Tests.{or-none-left, or-none-right, lt-suc-cases}
use Rattle.scan.proofs.First.{none-some}
use Rattle.scan.proofs.Every.{any_none, any-before}
use Rattle.automaton.specs.Automaton.{Closed}
use Rattle.refusal.specs.Limits.{most_nodes, most_entries, most_count}
use Rattle.refusal.specs.Checks.{AllPass}
use Rattle.refusal.proofs.Checks.{Decided, Tells, Lawful, finding-tells, ◌▸◌}
use Rattle.refusal.proofs.Judges.{pass-append, tells-append}
use Rattle.sequential.specs.Petri.{PetriNet, Source}
use Rattle.sequential.specs.Tests.{is_source}
use Rattle.sequential.specs.Words.{graph}
use Rattle.sequential.specs.Checks.{sheet_checks}
use Rattle.sequential.specs.Schedule.{IsSchedule}
use Rattle.sequential.proofs.Only.{graph-only}
use Rattle.sequential.proofs.Accepted.{sheet-tells, sheet-schedule}
use Rattle.sequential.proofs.Entries.{graph-closed}
use Rattle.sequential.proofs.Choices.{source↔}
use Rattle.encoding.specs.Encoding.{held, keys}
use Rattle.composed.specs.Tuples.{tuples}
use Rattle.composed.specs.Product.{Tasks, OnePerSource, size_of}
use Rattle.composed.specs.Composed.{composed}
use Rattle.composed.specs.Sheet.{sources, source_of, net_of, tasks_of}
use Rattle.composed.specs.Checks.{NumberPasses, each_sheet, FewPass, LimitsPass, number_checks, last_checks, compose_checks, SheetPasses, Composes}
use Rattle.composed.specs.Fault.{number_fails, sheet_fault, too_many, count_exceeds, counts_exceed, entries_exceed, limits_exceeded, number_tests, last_tests, compose_fault}
use Rattle.composed.proofs.Sources.{Lists, sources-list, sources-some}
use Rattle.composed.proofs.Dependent.{independent↔}

module _ (N : PetriNet) (T : 0 < N.transitions) (some-source : (t : ℕ) × (t < N.transitions) × Source N t) (number : ℕ) (sheet : ℕ → List ℕ) where
  abbrev X : Tasks
  X = tasks_of N number sheet

  -- ---- each check

  pub number↔ : (number_fails N number sheet ≡ false) ↔ NumberPasses N number sheet
  unfolding number_fails
  number↔ = (
    λ e. (
      ltb-false 4 number (or-none-left (ltb 4 number) (not (eqb number (length (sources N)))) e),
      eqb-true number (length (sources N)) (not-false (eqb number (length (sources N))) (or-none-right (ltb 4 number) (not (eqb number (length (sources N)))) e)),
    ),
    λ (l, e). rw (le-ltb 4 number l, eq-eqb number (length (sources N)) e),
  )

  pub sheet↔ : (i : ℕ) → AllPass (sheet_checks (net_of N i) (sheet i)) ↔ SheetPasses N number sheet i
  sheet↔ i =
      let (f, g) = sheet-schedule (net_of N i) (sheet i) T in
      let e : graph (net_of N i) (sheet i) ≡ graph N (sheet i) = graph-only N (source_of N i) (sheet i) in (
        λ p. let (w, s) = f p in record { words = w; task = subst (IsSchedule (net_of N i)) e s },
        λ P. g (P.words, subst (IsSchedule (net_of N i)) (sym e) P.task),
      )

  pub sheet-none : (i : ℕ) → sheet_fault N number sheet i ≡ none → SheetPasses N number sheet i
  unfolding sheet_fault
  sheet-none i e = (sheet↔ i).0 ((sheet-tells (net_of N i) (sheet i) T).passes.0 e)

  pub few↔ : (too_many N number sheet ≡ false) ↔ FewPass N number sheet
  unfolding too_many
  few↔ = (ltb-false most_nodes (tuples (size_of X) number), le-ltb most_nodes (tuples (size_of X) number))

  pub limits↔ : (limits_exceeded N number sheet ≡ false) ↔ LimitsPass N number sheet
  unfolding limits_exceeded counts_exceed count_exceeds entries_exceed
  limits↔ = (
    λ e.
        let few : any (counts_exceed N number sheet) (composed N X).nodes ≡ false = or-none-left _ (ltb most_entries (length (keys N (composed N X)))) e in
        record {
          counts = λ n p ln lp. ltb-false most_count (held N (composed N X) n p)
              (any-before (count_exceeds N number sheet n) N.places (any-before (counts_exceed N number sheet) (composed N X).nodes few n ln) p lp);
          entries = ltb-false most_entries (length (keys N (composed N X))) (or-none-right (any (counts_exceed N number sheet) (composed N X).nodes) _ e);
        },
    λ L. rw (
      any_none (counts_exceed N number sheet) (composed N X).nodes (λ n ln. any_none (count_exceeds N number sheet n) N.places
          (λ p lp. le-ltb most_count (held N (composed N X) n p) (L.counts n p ln lp))),
      le-ltb most_entries (length (keys N (composed N X))) L.entries,
    ) refl,
  )

  -- ---- the schedules in turn

  pub sheets-tell : (n : ℕ) → Tells (first (sheet_fault N number sheet) n) (each_sheet N number sheet n)
  unfolding first each_sheet sheet_fault
  sheets-tell zero = record { passes = (λ e. tt, λ u. refl); fails = λ r. (λ e. none-some none r refl e, λ b. absurd b) }
  sheets-tell (suc n) = tells-append _ _ (each_sheet N number sheet n) (sheet_checks (net_of N n) (sheet n)) (sheets-tell n) (λ p. sheet-tells (net_of N n) (sheet n) T)

  pub sheets↔ : (n : ℕ) → AllPass (each_sheet N number sheet n) ↔ ((i : ℕ) → i < n → SheetPasses N number sheet i)
  unfolding each_sheet
  sheets↔ zero = (λ u i l. absurd (omega arith), λ h. tt)
  sheets↔ (suc n) =
      let (f, g) = pass-append (each_sheet N number sheet n) (sheet_checks (net_of N n) (sheet n)) in
      let (a, b) = sheets↔ n in (
        λ p. let (q, r) = f p in λ i l. ⊎_elim (λ (e : i ≡ n). rw e ((sheet↔ n).0 r)) (λ (m : i < n). a q i m) (lt-suc-cases l),
        λ h. g (b (λ i l. h i (omega arith)), (sheet↔ n).1 (h n (omega arith))),
      )

  -- ---- the tasks are one for each source

  pub one-per-source : NumberPasses N number sheet → ((i : ℕ) → i < number → SheetPasses N number sheet i) → OnePerSource N (tasks_of N number sheet)
  one-per-source (four, e) S =
      let L : Lists (is_source N) N.transitions (sources N) = sources-list N in
      let (t, l, h) = some-source in
      record {
        some = omega (arith, sources-some N t l h);
        bounded = λ i li. L.below i (omega arith);
        source = λ i li. (source↔ N (source_of N i)).0 (L.passes i (omega arith));
        rising = λ i j k lj. L.rising i j k (omega arith);
        every = λ t l h. let (j, lj, q) = L.every t l ((source↔ N t).1 h) in (j, omega arith, q);
        closed = λ i li. subst Closed (graph-only N (source_of N i) (sheet i)) (graph-closed (net_of N i) (sheet i) T (S i li).words.arcs);
        transitions = λ i li. refl;
        schedule = λ i li. (S i li).task;
      }

  -- ---- all of them

  abbrev Before : Type 0
  Before = NumberPasses N number sheet × AllPass (each_sheet N number sheet number)

  number-lawful : Lawful Unit (number_checks N number sheet) (number_tests N number sheet)
  unfolding Lawful Decided
  number-lawful = (λ u. number↔) ▸ tt

  last-lawful : Lawful Before (last_checks N number sheet) (last_tests N number sheet)
  unfolding Lawful Decided
  last-lawful = (λ h. few↔) ▸ (λ ((c, s), f). independent↔ N X (one-per-source c ((sheets↔ number).0 s))) ▸ (λ h. limits↔) ▸ tt

  pub compose-tells : Tells (compose_fault N number sheet) (compose_checks N number sheet)
  unfolding compose_fault
  compose-tells =
      tells-append _ _ (number_checks N number sheet) (each_sheet N number sheet number ++ last_checks N number sheet)
      (finding-tells Unit (number_checks N number sheet) (number_tests N number sheet) number-lawful tt)
      (λ (c, u). tells-append _ _ (each_sheet N number sheet number) (last_checks N number sheet) (sheets-tell number)
      (λ s. finding-tells Before (last_checks N number sheet) (last_tests N number sheet) last-lawful (c, s)))

  pub composes↔ : AllPass (compose_checks N number sheet) ↔ Composes N number sheet
  composes↔ =
      let (f, g) = pass-append (each_sheet N number sheet number) (last_checks N number sheet) in (
        λ (c, p). let (s, (few, (i, (l, u)))) = f p in record { count = c; sheets = (sheets↔ number).0 s; few = few; independent = i; limits = l },
        λ C. (C.count, g ((sheets↔ number).1 C.sheets, (C.few, (C.independent, (C.limits, tt))))),
      )
