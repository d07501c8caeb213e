-- The calls for the small panel (§10.20): each is the other call under the panel's limit of scratch.
use Rattle.replay.specs.Plain.{ReplayAnswer}
use Rattle.schedule.specs.Plain.{FireAnswer, RunAnswer}
use Rattle.judge.specs.Answer.{CheckAnswer}
use Rattle.refusal.specs.Refusal.{Verdict}
use Rattle.std.specs.Prelude.{ℕ, List}
use Rattle.schedule.specs.Calls.{CheckWithinDone, BoundsWithinDone, FireWithinDone, RunWithinDone}
use Rattle.schedule.specs.declared.Walker.{Walker}
use Rattle.replay.specs.Calls.{ReplayWithinDone}
use Rattle.minimal.specs.Form.{FormWithinDone, FormAnswer}
use Rattle.mended.specs.Call.{MendWithinDone, MendAnswer}

-- how many words of scratch a call of the panel needs: §1.12
abbrev pub panel_limit : ℕ
panel_limit = 1024

abbrev pub PanelCheckDone : List ℕ → List ℕ → List ℕ → CheckAnswer → List ℕ → Type 0
PanelCheckDone = CheckWithinDone panel_limit

abbrev pub PanelBoundsDone : List ℕ → List ℕ → List ℕ → List ℕ → Verdict → List ℕ → List ℕ → Type 0
PanelBoundsDone = BoundsWithinDone panel_limit

abbrev pub PanelFireDone : List ℕ → List ℕ → List ℕ → Walker → ℕ → FireAnswer → Walker → List ℕ → Type 0
PanelFireDone = FireWithinDone panel_limit

abbrev pub PanelRunDone : List ℕ → List ℕ → List ℕ → List ℕ → List ℕ → RunAnswer → List ℕ → List ℕ → Type 0
PanelRunDone = RunWithinDone panel_limit

abbrev pub PanelFormDone : List ℕ → List ℕ → List ℕ → List ℕ → FormAnswer → List ℕ → List ℕ → Type 0
PanelFormDone = FormWithinDone panel_limit

abbrev pub PanelReplayDone : List ℕ → List ℕ → List ℕ → List ℕ → List ℕ → List ℕ → ReplayAnswer → List ℕ → List ℕ → List ℕ → Type 0
PanelReplayDone = ReplayWithinDone panel_limit

abbrev pub PanelMendDone : List ℕ → List ℕ → List ℕ → List ℕ → List ℕ → MendAnswer → List ℕ → List ℕ → List ℕ → Type 0
PanelMendDone = MendWithinDone panel_limit
