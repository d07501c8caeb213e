-- Following the arcs from the root along a record: what a run finds is its first firing that is not allowed, and where it ends otherwise.
use Rattle.std.specs.Prelude.{Ok, Some}
use Rattle.scan.proofs.Basics.{ℕ, zero, suc, ◌≤◌, ◌<◌, arith, ◌≡◌, refl, sym, ap, ◌∙◌, ◌↔◌, true, not, Option, none, some, List, [], ◌∷◌, length, get_or, take, drop}
use lib.ListN.{take-append-drop}
use lib.Seq.{take-suc, take-length}
use Rattle.scan.proofs.Tests.{not-false, decides_not}
use Rattle.scan.specs.Scan.{or_else, first}
use Rattle.scan.proofs.First.{when-none, found_some, first-all}
use Rattle.scan.proofs.Tabulate.{tabulate-length}
use Rattle.automaton.specs.Automaton.{Automaton, follow, allows}
use Rattle.automaton.proofs.Automaton.{follow-snoc, follow-lands, follow-allows, allows-prefix}
use Rattle.refusal.specs.Finding.{Tests, found_at, found_by, finding}
use Rattle.refusal.specs.declared.Refusal.{Refusal}
use Rattle.refusal.proofs.Checks.{Decides, Decided, Lawful, Tells, finding-tells}
use Rattle.sequential.specs.Petri.{PetriNet, petri_net, initial}
use Rattle.sequential.specs.Words.{node_count, entry_value, arc_entry, arc, marking, graph}
use Rattle.sequential.specs.Schedule.{Offers}
use Rattle.sequential.specs.Check.{schedule_reply}
use Rattle.sequential.proofs.Accepted.{accepts, closed}
use Rattle.sequential.proofs.Runs.{from-root, fire-all-length}
use Rattle.schedule.specs.Walker.{run_checks}
use Rattle.refusal.specs.Index.{index_from}
use Rattle.sequential.proofs.Entries.{entry_of}
use Rattle.schedule.specs.Firing.{node_after, entry_after, last_entry, firing_fault, run_fault, end_counts}

-- two scans find the same first where their findings agree as long as nothing is found
first-agree : (f g : ℕ → Option Refusal) (n : ℕ) → ((i : ℕ) → i < n → ((j : ℕ) → j < i → f j ≡ none) → f i ≡ g i) → first f n ≡ first g n
unfolding first or_else
first-agree f g zero h = refl
first-agree f g (suc n) h = rw (← (first-agree f g n (λ i l. h i (omega arith)))) (go (first f n) (λ e. h n (omega arith) (first-all f n e)))
  where
    go : (o : Option Refusal) → (o ≡ none → f n ≡ g n) → or_else o (f n) ≡ or_else o (g n)
    go none q = q refl
    go (some r) q = refl

module _ (N : PetriNet) (sheet firings : List ℕ) where
  abbrev G : Automaton
  G = graph N sheet

  abbrev after : ℕ → ℕ
  after = node_after N sheet firings

  -- a firing that passes is offered, and leads to the next node
  offered : (i : ℕ) → firing_fault N sheet firings i ≡ none → Offers N G (after i) (get_or firings i 0)
  unfolding firing_fault
  offered i h = found_some _ (not-false _ (when-none _ _ h))

  node-next : (i m : ℕ) → arc N sheet (after i) (get_or firings i 0) ≡ some m → after (suc i) ≡ m
  unfolding node_after
  node-next i m e = rw e

  one_on : (i : ℕ) → i < length firings → follow G 0 (take i firings) ≡ some (after i) → follow G 0 (take (suc i) firings) ≡ arc N sheet (after i) (get_or firings i 0)
  one_on i l e = ap (follow G 0) (take-suc firings i 0 l) ∙ follow-snoc G (take i firings) 0 _ (get_or firings i 0) e

  -- while the firings pass, following them leads where the run stands
  leads : (i : ℕ) → i ≤ length firings → ((j : ℕ) → j < i → firing_fault N sheet firings j ≡ none) → follow G 0 (take i firings) ≡ some (after i)
  unfolding follow node_after
  leads zero l h = refl
  leads (suc i) l h =
      let (m, a) = offered i (h i (omega arith)) in
      one_on i (omega arith) (leads i (omega arith) (λ j b. h j (omega arith))) ∙ a ∙ ap some (sym (node-next i m a))

  pub run-leads : run_fault N sheet firings ≡ none → follow G 0 firings ≡ some (after (length firings))
  unfolding run_fault
  run-leads h = ap (follow G 0) (sym (take-length firings)) ∙ leads (length firings) (omega arith) (first-all _ _ h)

  -- the last firing of a run that passes: the node where it is made, the entry of its arc, and where that leads
  pub record LastFiring (i k : ℕ) : Type 0 where
    pub before : follow G 0 (take i firings) ≡ some (after i)
    pub entry : arc_entry N sheet (after i) (get_or firings i 0) ≡ some k
    pub named : last_entry N sheet firings ≡ Some k
    pub lands : entry_value sheet k ≡ after (length firings)

  pub last-firing : run_fault N sheet firings ≡ none → (i : ℕ) → length firings ≡ suc i → (k : ℕ) × LastFiring i k
  unfolding run_fault entry_after
  last-firing h i l =
      let passes : (j : ℕ) → j < length firings → firing_fault N sheet firings j ≡ none = first-all _ _ h in
      let (m, a) = offered i (passes i (omega arith)) in
      let (k, e, v) = entry_of N sheet (after i) (get_or firings i 0) m a in (
        k,
        record {
          before = leads i (omega arith) (λ j b. passes j (omega arith));
          entry = e;
          named = ap (λ (j : ℕ). index_from (entry_after N sheet firings j)) l ∙ ap index_from e;
          lands = v ∙ sym (node-next i m a) ∙ ap after (sym l);
        },
      )

  -- ---- the first firing that is not allowed

  abbrev tests : List Tests
  tests = ((λ i. not (allows G 0 (take (suc i) firings))) ∷ []) ∷ []

  -- where those before it pass, a firing is offered exactly if the root allows the record up to it
  run-found : run_fault N sheet firings ≡ finding (run_checks N sheet firings) tests
  unfolding run_fault firing_fault finding found_by found_at allows
  run-found = first-agree _ _ (length firings) (λ i l before. rw (one_on i l (leads i (omega arith) before)))

  pub run-tells : Tells (run_fault N sheet firings) (run_checks N sheet firings)
  unfolding Lawful Decided Decides
  run-tells = rw run-found (finding-tells Unit (run_checks N sheet firings) tests (λ h i l. (decides_not _ (λ e. e) (λ e. e), λ x. tt), tt) tt)

  -- a run passes exactly where the root allows its record
  pub run-allowed : (run_fault N sheet firings ≡ none) ↔ (allows G 0 firings ≡ true)
  run-allowed = (
    λ h. follow-allows G 0 _ firings (run-leads h),
    λ a. run-tells.passes.1 (λ i l. (allows-prefix G (take (suc i) firings) (drop (suc i) firings) 0 (rw (take-append-drop (suc i) firings) a), tt), tt),
  )

-- ---- where a run ends

pub end-length : (net firings : List ℕ) → length (end_counts net firings) ≡ (petri_net net).places
unfolding end_counts initial
end-length net firings = fire-all-length (petri_net net) (initial (petri_net net)) firings (tabulate-length (petri_net net).start (petri_net net).places)

pub record Ends (net sheet firings : List ℕ) (n : ℕ) : Type 0 where
  pub low : n < node_count sheet
  pub counts : marking (petri_net net) sheet n ≡ end_counts net firings
  pub long : length (end_counts net firings) ≡ (petri_net net).places

pub run_ends : (net sheet firings : List ℕ) → schedule_reply net sheet ≡ Ok tt → run_fault (petri_net net) sheet firings ≡ none
    → Ends net sheet firings (node_after (petri_net net) sheet firings (length firings))
unfolding end_counts
run_ends net sheet firings h ok =
    let N = petri_net net in
    let c = closed net sheet h in
    let f = run-leads N sheet firings ok in
    let low : node_after N sheet firings (length firings) < node_count sheet = follow-lands (graph N sheet) c firings 0 _ c.root f in
    let counts : marking N sheet (node_after N sheet firings (length firings)) ≡ end_counts net firings
    = sym (from-root N (graph N sheet) c refl (accepts net sheet h).schedule firings _ f).1 in
    record { low = low; counts = counts; long = end-length net firings }
