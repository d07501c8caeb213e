-- Walks along the arcs: where an arc's entry leads, the faults of a walker, a single firing, and a list of firings from node 0.
use Rattle.std.specs.Prelude.{Err, None, Ok, Some}
use Rattle.refusal.specs.declared.Reason.TheVariants.{NoSuchNode, NotOffered, WrongCounts}
use Rattle.scan.proofs.Basics.{ℕ, ◌+◌, ◌*◌, ◌≤◌, ◌<◌, add-one, arith, ◌≡◌, refl, sym, ap, ◌∙◌, not, ◌&&◌, ltb, none, some, List, [], get_or}
use Rattle.scan.proofs.Tests.{le-leb, lt-leb, eq-eqb, ne_eqb, by_test}
use Rattle.scan.specs.Scan.{found, first}
use Rattle.scan.proofs.First.{none-some, or_else-next, or_else-hit, when-hit, when-miss, first-hit}
use Rattle.scan.proofs.Tabulate.{tabulate-at}
use Rattle.table.proofs.Table.{entry-some}
use Rattle.refusal.specs.Refusal.{refusal, Verdict}
use Rattle.refusal.specs.declared.Position.TheVariants.{Nothing, Place, Record}
use Rattle.refusal.specs.declared.Refusal.{Refusal}
use Rattle.sequential.specs.Petri.{PetriNet, petri_net}
use Rattle.sequential.specs.Words.{node_count, entry_count, entry_key, entry_value, entry_with_key, arc_entry, arc, count_at}
use Rattle.sequential.specs.Check.{schedule_reply}
use Rattle.sequential.specs.Known.{ArcsHold}
use Rattle.graph.specs.Readable.{Readable}
use Rattle.graph.specs.Rows.{marking_row}
use Rattle.graph.proofs.Rows.{marking-right}
use Rattle.judge.proofs.Judged.{accepted-readable}
use Rattle.refusal.specs.Verdict.{verdict_of}
use Rattle.refusal.proofs.Verdicts.{answer-some, then_next}
use Rattle.lending.specs.Call.{WordsDone}
use Rattle.refusal.specs.Index.{index_from}
use Rattle.lending.proofs.Laws.{refused-words, answered-none}
use Rattle.schedule.specs.Calls.{fire_core}
use Rattle.schedule.specs.Walker.{walker}
use Rattle.schedule.specs.Firing.{count_fault, walker_fault, step_fault, entry_fired, node_after, entry_after, firing_fault}
use Rattle.schedule.specs.declared.Walker.{Walker}
use Rattle.sequential.proofs.Entries.{graph-closed}
use Rattle.schedule.proofs.Walkers.{step-fault, walker-out, step-passes, follows_is}
use Rattle.refusal.specs.Finding.{found_at, found_by, line_finds, finding}

-- ---- where the entry of an arc leads

module _ (N : PetriNet) (sheet : List ℕ) (n t : ℕ) where
  pub entry-leads : (i : ℕ) → arc_entry N sheet n t ≡ some i → arc N sheet n t ≡ some (entry_value sheet i)
  unfolding arc
  entry-leads i e = rw e

  pub entry-stays : arc_entry N sheet n t ≡ none → arc N sheet n t ≡ none
  unfolding arc
  entry-stays e = rw e

  pub target-node : 0 < N.transitions → ArcsHold N sheet → n < node_count sheet → (i : ℕ) → arc_entry N sheet n t ≡ some i → entry_value sheet i < node_count sheet
  target-node T w l i e = (graph-closed N sheet T w).lands n t (entry_value sheet i) l (entry-leads i e)

  -- its key; it is one of the entries, and those are few
  pub entry_key_lem : (i : ℕ) → arc_entry N sheet n t ≡ some i → (i < entry_count sheet) × (entry_key sheet i ≡ n * N.transitions + t)
  unfolding arc_entry entry_with_key entry_key
  entry_key_lem i e = by_test (ltb n (node_count sheet) && ltb t N.transitions) (λ h. entry-some sheet 2 (entry_count sheet) _ i (rw h at e)) (λ h. none-some none i refl (rw h at e))

  pub entry-fits : ArcsHold N sheet → (i : ℕ) → arc_entry N sheet n t ≡ some i → i < 4096
  entry-fits w i e = omega (arith, (entry_key_lem i e).0, w.shape.few_entries)

-- ---- 18 and 19

module _ (N : PetriNet) (sheet : List ℕ) (w : Walker) where
  pub no-such-node : node_count sheet ≤ w.node → walker_fault N sheet w ≡ some (refusal NoSuchNode Nothing)
  unfolding walker_fault count_fault finding found_by line_finds found_at
  no-such-node l = or_else-hit _ _ _ (when-hit _ _ (le-leb _ _ l))

  pub count-right : (p : ℕ) → get_or w.counts p 0 ≡ count_at N sheet w.node p → count_fault N sheet w p ≡ none
  unfolding count_fault line_finds found_at
  count-right p e = when-miss _ _ (ap not (eq-eqb _ _ e))

  -- the scan of the counts is left at p, or runs out
  pub astray-at : w.node < node_count sheet → (p : ℕ) → first (count_fault N sheet w) p ≡ none → p < 32 → (get_or w.counts p 0 ≡ count_at N sheet w.node p → ⊥)
      → walker_fault N sheet w ≡ some (refusal WrongCounts (Place p))
  unfolding walker_fault count_fault finding found_by line_finds found_at
  astray-at l p h m e = or_else-next _ _ (when-miss _ _ (lt-leb _ _ l)) ∙ first-hit _ p _ h (when-hit _ _ (ap not (ne_eqb _ _ e))) 32 m

  pub walker-right : w.node < node_count sheet → first (count_fault N sheet w) 32 ≡ none → walker_fault N sheet w ≡ none
  unfolding walker_fault count_fault finding found_by line_finds found_at
  walker-right l h = or_else-next _ _ (when-miss _ _ (lt-leb _ _ l)) ∙ h

-- what the code reads of a node
pub held-at : (net sheet : List ℕ) → Readable net sheet → (n : ℕ) → n < node_count sheet → (held : List ℕ) → held ≡ marking_row net sheet n
    → (p : ℕ) → p < 32 → get_or held p 0 ≡ count_at (petri_net net) sheet n p
held-at net sheet r n l held e p k = ap (λ (x : List ℕ). get_or x p 0) (e ∙ marking-right net sheet r.arcs n l) ∙ tabulate-at _ 0 32 p k

-- ---- a single firing

pub entry-fired : (N : PetriNet) (sheet : List ℕ) (w : Walker) (t i : ℕ) → arc_entry N sheet w.node t ≡ some i → entry_fired N sheet w t ≡ i
unfolding entry_fired
entry-fired N sheet w t i e = rw e

module _ (net sheet : List ℕ) (w : Walker) (t : ℕ) (a : schedule_reply net sheet ≡ Ok tt) where
  step-refuses : (r : Refusal) → step_fault (petri_net net) sheet w t ≡ some r → WordsDone (fire_core net sheet w t) [] (Err r, w) []
  step-refuses r f = refused-words (then_next _ _ a ∙ ap verdict_of f) refl

  pub walker-refused : (v : Verdict) (r : Refusal) → v ≡ verdict_of (walker_fault (petri_net net) sheet w) → v ≡ Err r → WordsDone (fire_core net sheet w t) [] (Err r, w) []
  walker-refused v r h e = step-refuses r (step-fault (petri_net net) sheet w t ∙ or_else-hit _ _ r (answer-some _ r (sym h ∙ e)))

  module _ (h : walker_fault (petri_net net) sheet w ≡ none) where
    pub not-offered : arc_entry (petri_net net) sheet w.node t ≡ none → WordsDone (fire_core net sheet w t) [] (Err (refusal NotOffered Nothing), w) []
    unfolding found
    not-offered q = step-refuses _ (step-fault (petri_net net) sheet w t ∙ or_else-next _ _ h ∙ when-hit _ _ (rw (entry-stays (petri_net net) sheet w.node t q)))

    pub follows_on : (i m : ℕ) (counts : List ℕ) → arc_entry (petri_net net) sheet w.node t ≡ some i → m ≡ entry_value sheet i
        → counts ≡ marking_row net sheet m → WordsDone (fire_core net sheet w t) [] (Ok (record { entry = i }), walker m counts) []
    follows_on i m counts q e k =
        let r = (accepted-readable net sheet a).arcs in
        let p = walker-out (petri_net net) sheet w h in
        let o = entry-leads (petri_net net) sheet w.node t i q in
        let l = target-node (petri_net net) sheet w.node t r.sizes.some_transition r.holds p.node i q in
        answered-none refl (then_next _ _ a ∙ ap verdict_of (step-passes (petri_net net) sheet w t p (_, o)))
        (rw (entry-fired (petri_net net) sheet w t i q, follows_is net sheet a w t _ p o, k, e, marking-right net sheet r (entry_value sheet i) l))

-- ---- a list of firings

module _ (N : PetriNet) (sheet firings : List ℕ) where
  pub after_none : 0 ≡ node_after N sheet firings 0
  unfolding node_after
  after_none = refl

  pub entry-none : None ≡ index_from (entry_after N sheet firings 0)
  unfolding entry_after
  entry-none = refl

  module _ (i n : ℕ) (e : n ≡ node_after N sheet firings i) where
    pub after_more : (k : ℕ) → arc_entry N sheet n (get_or firings i 0) ≡ some k → entry_value sheet k ≡ node_after N sheet firings (i + 1)
    unfolding node_after
    after_more k h = rw (add-one, ← e, entry-leads N sheet n (get_or firings i 0) k h)

    pub entry_more : (k : ℕ) → arc_entry N sheet n (get_or firings i 0) ≡ some k → Some k ≡ index_from (entry_after N sheet firings (i + 1))
    unfolding entry_after
    entry_more k h = rw (add-one, ← e, h)

    pub firing-passes : (k : ℕ) → arc_entry N sheet n (get_or firings i 0) ≡ some k → firing_fault N sheet firings i ≡ none
    unfolding firing_fault found
    firing-passes k h = when-miss _ _ (rw (← e, entry-leads N sheet n (get_or firings i 0) k h))

    pub firing-fails : arc_entry N sheet n (get_or firings i 0) ≡ none → firing_fault N sheet firings i ≡ some (refusal NotOffered (Record i))
    unfolding firing_fault found
    firing-fails h = when-hit _ _ (rw (← e, entry-stays N sheet n (get_or firings i 0) h))
