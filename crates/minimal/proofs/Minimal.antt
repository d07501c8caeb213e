-- The minimal form of an accepted sheet: its graph is the minimal automaton, it is accepted, and two forms are equal exactly if the roots allow the same lists.
-- ---- a schedule that a sheet can say
use Rattle.std.specs.Prelude.{Ok}
use Rattle.scan.proofs.Basics.{ℕ, ◌+◌, ◌*◌, ◌≤◌, ◌<◌, arith, ◌≡◌, refl, sym, ap, subst, ◌∙◌, ◌↔◌, List, length}
use Rattle.automaton.specs.Automaton.{Automaton, Closed, SameLists}
use Rattle.automaton.specs.BreadthFirst.{BreadthFirst}
use Rattle.automaton.specs.Equivalence.{Equivalent, Fires}
use Rattle.automaton.specs.Quotient.{minimal, class_number, representative, Quotient, Renumbering}
use Rattle.automaton.proofs.Quotient.{minimal-transitions, minimal-label, minimal-confined, minimal-breadth-first, representative-node, quotient}
use Rattle.automaton.proofs.Minimal.{minimal-closed, minimal-equivalent, minimal-size, minimal-idempotent, minimal-equal↔lists, minimal-fewest, quotient-unique}
use Rattle.automaton.proofs.Fewest.{fewest-renumbering}
use Rattle.net.proofs.Laws.{sizes}
use Rattle.sequential.specs.Petri.{PetriNet, petri_net, fire}
use Rattle.sequential.specs.Words.{node_count, entry_count, graph}
use Rattle.sequential.specs.Schedule.{IsSchedule}
use Rattle.sequential.specs.Known.{WordsHold, Accepts}
use Rattle.sequential.specs.Check.{schedule_reply}
use Rattle.sequential.proofs.Accepted.{accepted-exactly, accepts, some_transition}
use Rattle.encoding.specs.Encoding.{held, encode, Encodable}
use Rattle.minimal.specs.Minimal.{minimal_form, QuotientForm, Fewest}
use Rattle.encoding.proofs.Encoded.{encoded-length, encoded-entries, encoded-passes}
use Rattle.encoding.proofs.Decoded.{decode_encode}
use Rattle.encoding.proofs.Recoded.{encode_decode, decoded-encodable}
use Rattle.minimal.proofs.Length.{minimal-keys}
use Rattle.minimal.proofs.Schedule.{schedule-fires, quotient-schedule}

module _ (N : PetriNet) (A : Automaton) (E : Encodable N A) (s : IsSchedule N A) where
  fires : Fires (fire N) A
  fires = schedule-fires N A s

  pub minimal-encodable : Encodable N (minimal A)
  minimal-encodable = record {
    transitions = minimal-transitions A ∙ E.transitions;
    few_nodes = omega (arith, minimal-size (fire N) A E.closed fires, E.few_nodes);
    few_entries = omega (arith, minimal-keys N (fire N) A E.closed fires, E.few_entries);
    closed = minimal-closed (fire N) A E.closed fires;
    confined = minimal-confined A;
    places = λ i l. ap length (minimal-label A i l) ∙ E.places (representative A i) (node i l);
    most = λ i p l m. unfold held in (rw (minimal-label A i l) (unfold held in (E.most (representative A i) p (node i l) m)));
  }
    where
      node : (i : ℕ) → i < (minimal A).nodes → representative A i < A.nodes
      node i l = representative-node (fire N) A E.closed fires i l

  pub minimal-schedule : IsSchedule N (minimal A)
  minimal-schedule = quotient-schedule N A (minimal A) (class_number A) (quotient (fire N) A E.closed fires) E.closed s

-- ---- an accepted sheet

abbrev pub Accepted : List ℕ → List ℕ → Type 0
Accepted net sheet = schedule_reply net sheet ≡ Ok tt

module _ (net sheet : List ℕ) (h : Accepted net sheet) where
  abbrev N : PetriNet
  N = petri_net net

  abbrev A : Automaton
  A = graph (petri_net net) sheet

  known : Accepts net sheet
  known = accepts net sheet h

  T : 0 < (petri_net net).transitions
  T = some_transition net sheet h

  P : 0 < (petri_net net).places
  P = (sizes net known.net_accepted).some_place

  encodable : Encodable (petri_net net) (graph (petri_net net) sheet)
  encodable = decoded-encodable N sheet T P known.words

  closed : Closed (graph (petri_net net) sheet)
  closed = encodable.closed

  fired : Fires (fire (petri_net net)) (graph (petri_net net) sheet)
  fired = schedule-fires N A known.schedule

  form-encodable : Encodable N (minimal A)
  form-encodable = minimal-encodable N A encodable known.schedule

  -- the graph that the minimal form says is the minimal automaton
  form-graph : graph (petri_net net) (minimal_form net sheet) ≡ minimal (graph (petri_net net) sheet)
  unfolding minimal_form
  form-graph = decode_encode N (minimal A) T form-encodable

  pub form-accepted : Accepted net (minimal_form net sheet)
  form-accepted = (accepted-exactly net (minimal_form net sheet)).1 (record {
    net_accepted = known.net_accepted;
    words = unfold minimal_form in (encoded-passes N (minimal A) form-encodable);
    schedule = subst (IsSchedule N) (sym form-graph) (minimal-schedule N A encodable known.schedule);
  })

  pub form-lists : SameLists (graph (petri_net net) (minimal_form net sheet)) (graph (petri_net net) sheet) 0 0
  form-lists = subst (λ (M : Automaton). SameLists M A 0 0) (sym form-graph) (minimal-equivalent (fire N) A closed fired).lists

  -- ---- its length

  form-entries : entry_count (minimal_form net sheet) ≤ entry_count sheet
  unfolding minimal_form
  form-entries =
      let same : entry_count (encode N A) ≡ entry_count sheet = ap entry_count (encode_decode N sheet T P known.words) in
      omega (arith, encoded-entries N (minimal A), minimal-keys N (fire N) A closed fired, encoded-entries N A)

  form-length : length (minimal_form net sheet) ≡ 2 + 2 * entry_count (minimal_form net sheet)
  unfolding minimal_form
  form-length = encoded-length N (minimal A)

  pub form-no-longer : length (minimal_form net sheet) ≤ length sheet
  form-no-longer = omega (arith, form-length, form-entries, known.words.arcs.shape.whole)

  pub form-short : length (minimal_form net sheet) ≤ 8194
  form-short = omega (arith, form-length, form-entries, known.words.arcs.shape.few_entries)

  -- ---- its graph

  pub form-quotient : QuotientForm (petri_net net) sheet (minimal_form net sheet)
  form-quotient = record {
    number = class_number A;
    quotient = subst (λ (M : Automaton). Quotient A M (class_number A)) (sym form-graph) (quotient (fire N) A closed fired);
    breadth_first = subst BreadthFirst (sym form-graph) (minimal-breadth-first (fire N) A closed fired);
  }

  -- and no other words that pass 6 to 9 do
  pub form-unique : (form : List ℕ) → WordsHold (petri_net net) form → QuotientForm (petri_net net) sheet form → form ≡ minimal_form net sheet
  unfolding minimal_form
  form-unique form w q =
      let E = decoded-encodable N form T P w in
      sym (encode_decode N form T P w)
      ∙ ap (encode N) (quotient-unique (fire N) A closed fired (graph N form) q.number q.quotient q.breadth_first E.confined E.closed.bounded refl)

  pub form-twice : minimal_form net (minimal_form net sheet) ≡ minimal_form net sheet
  unfolding minimal_form
  form-twice = ap (encode N) (ap minimal form-graph ∙ minimal-idempotent (fire N) A closed fired)

-- ---- two accepted sheets

module _ (net x y : List ℕ) (hx : Accepted net x) (hy : Accepted net y) where
  abbrev G : List ℕ → Automaton
  G sheet = graph (petri_net net) sheet

  one-start : (G x).label 0 ≡ (G y).label 0
  one-start = (known net x hx).schedule.starts ∙ sym (known net y hy).schedule.starts

  automata : (minimal (G x) ≡ minimal (G y)) ↔ SameLists (G x) (G y) 0 0
  automata = minimal-equal↔lists (fire (petri_net net)) (G x) (G y) (closed net x hx) (closed net y hy) (fired net x hx) (fired net y hy) refl one-start

  -- equal words say equal graphs
  pub forms-equal : (minimal_form net x ≡ minimal_form net y) ↔ SameLists (graph (petri_net net) x) (graph (petri_net net) y) 0 0
  forms-equal = (
    λ e. automata.0 (sym (form-graph net x hx) ∙ ap G e ∙ form-graph net y hy),
    λ s. unfold minimal_form in (ap (encode (petri_net net)) (automata.1 s)),
  )

  -- no sheet that allows the same lists has fewer nodes
  pub form-fewest : SameLists (graph (petri_net net) x) (graph (petri_net net) y) 0 0 → Fewest (petri_net net) (minimal_form net x) y
  form-fewest s =
      let same : Equivalent (G x) (G y) 0 0 = record { labels = one-start; lists = s } in
      let nodes : node_count (minimal_form net x) ≡ (minimal (G x)).nodes = ap (λ (M : Automaton). M.nodes) (form-graph net x hx) in
      record {
        fewest = rw nodes (minimal-fewest (fire (petri_net net)) (G x) (G y) (closed net x hx) (closed net y hy) (fired net x hx) (fired net y hy) same);
        renumbered = λ e. (
          class_number (G y),
          subst (λ (M : Automaton). Renumbering (G y) M (class_number (G y))) (sym (form-graph net x hx)) (fewest-renumbering (fire (petri_net net)) (G x) (G y)
              (closed net x hx) (closed net y hy) (fired net x hx) (fired net y hy) refl same (e ∙ nodes)),
        );
      }
