-- The tests of a log decide its clauses: 23, and 20 and 24 at each firing. And one firing more, or the firing at which the replay stops.
use Rattle.refusal.specs.declared.Reason.TheVariants.{LogShape, NotOffered, WrongNode}
use Rattle.scan.proofs.Basics.{ℕ, suc, ◌+◌, ◌*◌, ◌≤◌, ◌<◌, arith, ◌≡◌, refl, sym, ap, ◌∙◌, inl, inr, ◌↔◌, true, false, not, eqb, Option, none, some, List, length}
use Rattle.scan.proofs.Tests.{ltb-false, le-ltb, eqb-true, eq-eqb, ne_eqb, not-false, decides_not}
use Rattle.scan.specs.Scan.{or_else, found, found_or, first, tabulate}
use Rattle.scan.proofs.First.{or_else-assoc, or_else-hit, or_else-next, when-hit, when-miss}
use Rattle.automaton.specs.Automaton.{follow, allows}
use Rattle.automaton.proofs.Automaton.{follow-snoc}
use Rattle.refusal.specs.Limits.{most_firings}
use Rattle.refusal.specs.Refusal.{refusal}
use Rattle.refusal.specs.Finding.{found_at, found_by, line_finds, finding}
use Rattle.refusal.specs.declared.Position.TheVariants.{Nothing, Record}
use Rattle.refusal.proofs.Checks.{Decides, Decided, Lawful, Tells, finding-tells}
use Rattle.sequential.specs.Petri.{PetriNet}
use Rattle.sequential.specs.Words.{entry_value, arc_entry, arc, graph}
use Rattle.schedule.proofs.Walks.{entry-leads, entry-stays}
use Rattle.replay.specs.Log.{firing_count, fired_at, logged_at, firings_to}
use Rattle.replay.specs.Checks.{log_checks, leads, NodeReached, replay_checks}
use Rattle.replay.specs.Tests.{log_tests, log_fault, other_node, replay_tests, firing_fault, replay_fault}
use Rattle.replay.specs.Tally.{LogHolds}

-- ---- 23

module _ (log : List ℕ) where
  log-lawful : Lawful Unit (log_checks log) (log_tests log)
  unfolding Lawful Decided
  log-lawful = (λ h. (ltb-false _ _, le-ltb _ _), (λ h. (ltb-false _ _, le-ltb _ _), (λ h. decides_not _ (eqb-true _ _) (eq-eqb _ _), tt)))

  log-tells : Tells (log_fault log) (log_checks log)
  unfolding log_fault
  log-tells = finding-tells Unit (log_checks log) (log_tests log) log-lawful tt

  pub no_word : length log < 1 → log_fault log ≡ some (refusal LogShape Nothing)
  no_word l = (log-tells.fails _).1 (inl (λ p. omega arith, refl))

  pub too_many_lem : 1 ≤ length log → most_firings < firing_count log → log_fault log ≡ some (refusal LogShape Nothing)
  too_many_lem a l = (log-tells.fails _).1 (inr (a, inl (λ p. omega arith, refl)))

  module _ (a : 1 ≤ length log) (b : firing_count log ≤ most_firings) where
    pub other_length : (length log ≡ 1 + 2 * firing_count log → ⊥) → log_fault log ≡ some (refusal LogShape Nothing)
    other_length d = (log-tells.fails _).1 (inr (a, inr (b, inl (d, refl))))

    pub log_passes : length log ≡ 1 + 2 * firing_count log → log_fault log ≡ none
    log_passes e = log-tells.passes.1 (a, (b, (e, tt)))

  pub log-holds : log_fault log ≡ none → LogHolds log
  log-holds h = let (a, (b, (c, u))) = log-tells.passes.0 h in record { few = b; whole = c }

-- ---- 20 and 24

-- a node that is found and is the one logged
same-node : (x : ℕ) (o : Option ℕ) → (found_or true (λ m. not (eqb x m)) o ≡ false) ↔ (o ≡ some x)
same-node x none = (λ h. let z : ◌≡◌ {A = ℕ} 0 1 = cc in absurd (omega arith), λ h. cc)
same-node x (some m) = (λ h. ap some (sym (eqb-true x m (not-false _ h))), λ h. let q : m ≡ x = cc in ap not (eq-eqb x m (sym q)))

module _ (N : PetriNet) (sheet log : List ℕ) where
  node-decided : (i : ℕ) → (other_node N sheet log i ≡ false) ↔ NodeReached N sheet log i
  unfolding other_node
  node-decided i = same-node (logged_at log i) _

  replay-lawful : Lawful Unit (replay_checks N sheet log) (replay_tests N sheet log)
  unfolding Lawful Decided Decides
  replay-lawful = let (a, (b, (c, u))) = log-lawful log in (a, (b, (c, (λ h i l. (decides_not _ (λ e. e) (λ e. e), λ a. (node-decided i, λ b. tt)), tt))))

  pub replay-tells : Tells (replay_fault N sheet log) (replay_checks N sheet log)
  unfolding replay_fault
  replay-tells = finding-tells Unit (replay_checks N sheet log) (replay_tests N sheet log) replay-lawful tt

  -- 23 comes before the firings
  pub replay-fault : replay_fault N sheet log ≡ or_else (log_fault log) (first (firing_fault N sheet log) (firing_count log))
  unfolding replay_fault log_fault firing_fault finding found_by line_finds
  replay-fault = ap (or_else _) (sym (or_else-assoc _ _ _)) ∙ sym (or_else-assoc _ _ _)

  pub leads-none : leads N sheet log 0 ≡ some 0
  unfolding firings_to tabulate follow
  leads-none = refl

  -- one firing, at the node that those before it lead to
  module _ (i n : ℕ) (e : leads N sheet log i ≡ some n) where
    pub leads-next : leads N sheet log (suc i) ≡ arc N sheet n (fired_at log i)
    unfolding firings_to tabulate
    leads-next = follow-snoc (graph N sheet) (firings_to log i) 0 n (fired_at log i) e

    pub firing-stops : arc_entry N sheet n (fired_at log i) ≡ none → firing_fault N sheet log i ≡ some (refusal NotOffered (Record i))
    unfolding firing_fault line_finds found_at allows found
    firing-stops h = or_else-hit _ _ _ (when-hit _ _ (ap (λ (o : Option ℕ). not (found o)) (leads-next ∙ entry-stays N sheet n (fired_at log i) h)))

    module _ (k : ℕ) (h : arc_entry N sheet n (fired_at log i) ≡ some k) where
      pub leads-more : leads N sheet log (suc i) ≡ some (entry_value sheet k)
      leads-more = leads-next ∙ entry-leads N sheet n (fired_at log i) k h

      offered : not (allows (graph N sheet) 0 (firings_to log (suc i))) ≡ false
      unfolding allows found
      offered = ap (λ (o : Option ℕ). not (found o)) leads-more

      pub node-differs : (logged_at log i ≡ entry_value sheet k → ⊥) → firing_fault N sheet log i ≡ some (refusal WrongNode (Record i))
      unfolding firing_fault line_finds found_at other_node
      node-differs d = or_else-next _ _ (when-miss _ _ offered) ∙ when-hit _ _ (rw leads-more (ap not (ne_eqb _ _ d)))

      pub firing-passes : logged_at log i ≡ entry_value sheet k → firing_fault N sheet log i ≡ none
      unfolding firing_fault line_finds found_at
      firing-passes q = or_else-next _ _ (when-miss _ _ offered) ∙ when-miss _ _ ((node-decided i).1 (leads-more ∙ ap some (sym q)))
