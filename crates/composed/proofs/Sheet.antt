-- The composed schedule's words: accepted with the whole net, and the graph of the reached states.
use Rattle.scan.proofs.Basics.{ℕ, ◌≤◌, ◌<◌, arith, ◌≡◌, sym, ap, subst, ◌∙◌, List, length}
use Rattle.scan.proofs.Tabulate.{tabulate-length}
use Rattle.automaton.specs.Automaton.{Automaton}
use Rattle.automaton.specs.BreadthFirst.{BreadthFirst}
use Rattle.sequential.specs.Petri.{PetriNet, Source}
use Rattle.sequential.specs.Words.{graph}
use Rattle.sequential.specs.Known.{WordsHold}
use Rattle.sequential.specs.Schedule.{IsSchedule}
use Rattle.encoding.specs.Encoding.{Encodable}
use Rattle.encoding.proofs.Encoded.{encoded-length, encoded-entries, encoded-passes}
use Rattle.encoding.proofs.Decoded.{decode_encode}
use Rattle.composed.specs.Product.{Tasks, OnePerSource, marking, product}
use Rattle.composed.specs.Composed.{trimmed_number, ReachedPart, composed}
use Rattle.composed.specs.Sheet.{tasks_of, composed_sheet}
use Rattle.composed.specs.Checks.{Composes}
use Rattle.composed.proofs.Chain.{one-per-source}
use Rattle.composed.proofs.Composed.{composed-part, composed-schedule, composed-breadth-first, composed-closed, composed-confined, composed-transitions, composed-size}

module _ (N : PetriNet) (T : 0 < N.transitions) (some-source : (t : ℕ) × (t < N.transitions) × Source N t) (number : ℕ) (sheet : ℕ → List ℕ) where
  abbrev X : Tasks
  X = tasks_of N number sheet

  -- ---- what is written

  module _ (C : Composes N number sheet) where
    pub tasks : OnePerSource N (tasks_of N number sheet)
    tasks = one-per-source N T some-source number sheet C.count C.sheets

    pub composed-encodable : Encodable N (composed N (tasks_of N number sheet))
    composed-encodable = record {
      transitions = composed-transitions N X tasks;
      few_nodes = omega (arith, composed-size N X tasks, C.few);
      few_entries = C.limits.entries;
      closed = composed-closed N X tasks;
      confined = composed-confined N X tasks;
      places = λ n l. let (s, r, e) = (composed-part N X tasks).onto n l in
          ap length (ap (composed N X).label (sym e) ∙ (composed-part N X tasks).labels s r) ∙ wide s;
      most = C.limits.counts;
    }
      where
        wide : (s : ℕ) → length ((product N X).label s) ≡ N.places
        wide s = unfold product marking in (tabulate-length _ N.places)

    pub written-graph : graph N (composed_sheet N number sheet) ≡ composed N (tasks_of N number sheet)
    unfolding composed_sheet
    written-graph = decode_encode N (composed N X) T composed-encodable

    pub written-words : WordsHold N (composed_sheet N number sheet)
    unfolding composed_sheet
    written-words = encoded-passes N (composed N X) composed-encodable

    pub written-schedule : IsSchedule N (graph N (composed_sheet N number sheet))
    written-schedule = subst (IsSchedule N) (sym written-graph) (composed-schedule N X tasks C.independent)

    pub written-part : ReachedPart (product N (tasks_of N number sheet)) (graph N (composed_sheet N number sheet)) (trimmed_number (product N (tasks_of N number sheet)))
    written-part = subst (λ (M : Automaton). ReachedPart (product N X) M (trimmed_number (product N X))) (sym written-graph) (composed-part N X tasks)

    pub written-breadth-first : BreadthFirst (graph N (composed_sheet N number sheet))
    written-breadth-first = subst BreadthFirst (sym written-graph) (composed-breadth-first N X tasks)

    pub written-short : length (composed_sheet N number sheet) ≤ 8194
    unfolding composed_sheet
    written-short = omega (arith, encoded-length N (composed N X), encoded-entries N (composed N X), C.limits.entries)
