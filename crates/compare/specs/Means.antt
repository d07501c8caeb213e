-- What a comparison says of the two schedules and of all finite lists (§10.51), and its postcondition: demand 3 is in the contract of the call itself.
use Rattle.std.specs.Prelude.{ℕ, ◌≤◌, ◌<◌, ◌≡◌, ◌↔◌, true, List, [], ◌∷◌, ◌++◌, length, get_or, take, drop, Ok}
use Rattle.automaton.specs.Automaton.{SameLists}
use Rattle.refusal.specs.Limits.{scratch_limit}
use Rattle.net.specs.Checks.{IsNet}
use Rattle.sequential.specs.Petri.{petri_net}
use Rattle.sequential.specs.Words.{graph}
use Rattle.sequential.specs.Schedule.{IsSchedule}
use Rattle.sequential.specs.Checks.{WordsPass}
use Rattle.lending.specs.Call.{CallDone}
use Rattle.minimal.specs.Minimal.{QuotientForm}
use Rattle.compare.specs.Compare.{compare_core, CompareAnswer}
use Rattle.compare.specs.declared.Comparison.{Comparison}

-- a net, and a sequential schedule of it: §6.1
pub record Schedules (net sheet : List ℕ) : Type 0 where
  pub is_net : IsNet net
  pub words : WordsPass (petri_net net) sheet
  pub schedule : IsSchedule (petri_net net) (graph (petri_net net) sheet)

-- the first `size` words of a buffer are the minimal form of a schedule, and the words behind them are as they were
pub record FormIn (net sheet out : List ℕ) (size : ℕ) (out' : List ℕ) : Type 0 where
  pub original : Schedules net sheet
  pub fits : size ≤ length out
  pub past : out' ≡ take size out' ++ drop size out
  -- it is a schedule, and allows the lists that its original allows: §11.9
  pub schedules : Schedules net (take size out')
  pub lists : SameLists (graph (petri_net net) (take size out')) (graph (petri_net net) sheet) 0 0
  -- it is the form that merging and numbering give: §11.3, §11.5, §11.6
  pub merges : QuotientForm (petri_net net) sheet (take size out')
  pub only : (form : List ℕ) → Schedules net form → QuotientForm (petri_net net) sheet form → form ≡ take size out'

-- both forms are written. The answer is that they are equal exactly if every list is allowed from both roots or from neither, and exactly if they are
-- equal in length and word for word (§11.8)
pub record Compares (net first second one two : List ℕ) (found : Comparison) (one' two' : List ℕ) : Type 0 where
  pub first-form : FormIn net first one found.first one'
  pub second-form : FormIn net second two found.second two'
  pub lists : (found.same ≡ true) ↔ SameLists (graph (petri_net net) first) (graph (petri_net net) second) 0 0
  pub words : (found.same ≡ true) ↔ ((found.first ≡ found.second) × ((i : ℕ) → i < found.first → get_or one' i 0 ≡ get_or two' i 0))

-- what is answered and what is left in the buffers, by equations, for every input; and what the answer means if nothing is refused
pub record CompareDone (net first second one two scratch : List ℕ) (r : CompareAnswer) (one' two' scratch' : List ℕ) : Type 0 where
  pub call : CallDone scratch_limit (compare_core net first second) (one ∷ two ∷ []) scratch r (one' ∷ two' ∷ []) scratch'
  pub means : (found : Comparison) → r ≡ Ok found → Compares net first second one two found one' two'
