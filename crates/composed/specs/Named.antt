-- When the call names a schedule with its refusal (§10.30): scratch, the net and the number of schedules are right, and the schedule is the first that does not pass.
use Rattle.std.specs.Prelude.{ℕ, ◌≤◌, ◌<◌, List, length}
use Rattle.refusal.specs.Limits.{scratch_limit}
use Rattle.refusal.specs.Checks.{AllPass}
use Rattle.net.specs.Checks.{IsNet}
use Rattle.sequential.specs.Petri.{petri_net}
use Rattle.sequential.specs.Checks.{sheet_checks}
use Rattle.composed.specs.Sheet.{net_of}
use Rattle.composed.specs.Checks.{NumberPasses}

pub record Named (net : List ℕ) (number : ℕ) (sheet : ℕ → List ℕ) (scratch : List ℕ) (i : ℕ) : Type 0 where
  pub enough : scratch_limit ≤ length scratch
  pub is_net : IsNet net
  pub count : NumberPasses (petri_net net) number sheet
  pub below : i < number
  pub before : (j : ℕ) → j < i → AllPass (sheet_checks (net_of (petri_net net) j) (sheet j))
  pub fails : AllPass (sheet_checks (net_of (petri_net net) i) (sheet i)) → ⊥
