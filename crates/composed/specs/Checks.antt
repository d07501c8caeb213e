-- The checks of composition in their order (§7.63), each with its clause and its number.
use Rattle.refusal.specs.declared.Reason.TheVariants.{Dependent, TooLarge, WrongNumber}
use Rattle.std.specs.Prelude.{ℕ, zero, suc, ◌≤◌, ◌<◌, ◌≡◌, List, [], ◌∷◌, ◌++◌, length}
use Rattle.refusal.specs.Limits.{most_nodes, most_entries, most_count}
use Rattle.refusal.specs.Checks.{Check, once}
use Rattle.sequential.specs.Petri.{PetriNet}
use Rattle.sequential.specs.Words.{graph}
use Rattle.sequential.specs.Known.{WordsHold}
use Rattle.sequential.specs.Checks.{sheet_checks}
use Rattle.encoding.specs.Encoding.{held, keys}
use Rattle.composed.specs.Tuples.{tuples}
use Rattle.composed.specs.Product.{IsTask, Tasks, size_of}
use Rattle.composed.specs.Composed.{composed, Independent}
use Rattle.composed.specs.Sheet.{sources, source_of, net_of, tasks_of}

-- how many schedules can be lent: §7.28
abbrev pub most_sheets : ℕ
most_sheets = 4

module _ (N : PetriNet) (number : ℕ) (sheet : ℕ → List ℕ) where
  abbrev tasks : Tasks
  tasks = tasks_of N number sheet

  -- §7.28
  abbrev pub NumberPasses : Type 0
  NumberPasses = (number ≤ most_sheets) × (number ≡ length (sources N))

  -- all checks of one schedule after the other, each with the net from which the other sources are removed: §10.31
  unfoldable pub each_sheet : ℕ → List Check
  each_sheet zero = []
  each_sheet (suc i) = each_sheet i ++ sheet_checks (net_of N i) (sheet i)

  -- §7.29 for the number of tuples of nodes; all of them count, however few are reached
  abbrev pub FewPass : Type 0
  FewPass = tuples (size_of tasks) number ≤ most_nodes

  -- §7.29 of the composed schedule, with the limits of §1.4 and §1.5
  pub record LimitsPass : Type 0 where
    pub counts : (n p : ℕ) → n < (composed N (tasks_of N number sheet)).nodes → p < N.places → held N (composed N (tasks_of N number sheet)) n p ≤ most_count
    pub entries : length (keys N (composed N (tasks_of N number sheet))) ≤ most_entries

  abbrev pub number_checks : List Check
  number_checks = once NumberPasses WrongNumber ∷ []

  abbrev pub last_checks : List Check
  last_checks = once FewPass TooLarge ∷ once (Independent N tasks) Dependent ∷ once LimitsPass TooLarge ∷ []

  abbrev pub compose_checks : List Check
  compose_checks = number_checks ++ (each_sheet number ++ last_checks)

  -- ---- what the checks say together

  -- schedule i passes: its words are right, and their graph is a task
  pub record SheetPasses (i : ℕ) : Type 0 where
    pub words : WordsHold (net_of N i) (sheet i)
    pub task : IsTask N (source_of N i) (graph N (sheet i))

  pub record Composes : Type 0 where
    pub count : NumberPasses
    pub sheets : (i : ℕ) → i < number → SheetPasses i
    pub few : FewPass
    pub independent : Independent N (tasks_of N number sheet)
    pub limits : LimitsPass
