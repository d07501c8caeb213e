-- What is promised of the calls for the small panel (§13.16): each does what the other call does, from less scratch. proofs/Panel has a term for the record.
use Rattle.refusal.specs.declared.Reason.TheVariants.{SmallOutput}
use Rattle.std.specs.Prelude.{ℕ, ◌≤◌, ◌≡◌, ◌↔◌, List, [], ◌∷◌, ◌++◌, length}
use Rattle.refusal.specs.Limits.{scratch_limit}
use Rattle.refusal.specs.Refusal.{plain_verdict}
use Rattle.refusal.specs.Checks.{Check, once}
use Rattle.net.specs.Checks.{net_checks}
use Rattle.sequential.specs.Petri.{petri_net}
use Rattle.sequential.specs.Checks.{sheet_checks}
use Rattle.judge.specs.Answer.{plain_check, CheckAnswer}
use Rattle.lending.specs.Demands.{number, call_checks, EveryCall}
use Rattle.schedule.specs.Calls.{CheckDone, BoundsDone, FireDone, RunDone}
use Rattle.schedule.specs.Plain.{plain_fire, plain_run}
use Rattle.schedule.specs.Walker.{walker_checks, run_checks}
use Rattle.schedule.specs.declared.Walker.{Walker}
use Rattle.replay.specs.Checks.{replay_checks}
use Rattle.replay.specs.Calls.{ReplayDone}
use Rattle.replay.specs.Plain.{plain_replay}
use Rattle.minimal.specs.Form.{plain_form, FormDone}
use Rattle.mended.specs.Checks.{mend_checks}
use Rattle.mended.specs.Call.{plain_mend, MendDone}
use Rattle.panel.specs.Calls.{panel_limit, PanelCheckDone, PanelBoundsDone, PanelFireDone, PanelRunDone, PanelFormDone, PanelReplayDone, PanelMendDone}
use Rattle.demands.specs.Terms.{Accepted}

-- ---- the same from less scratch

-- A panel's call and the other one, given by their postconditions: on the scratch before, the answer, what the call may change, and the scratch after. If each has
-- enough scratch, they give the same answer and leave the same.
abbrev pub SameOnPanel : {Answer Left : Type 0} → (List ℕ → Answer → Left → List ℕ → Type 0) → (List ℕ → Answer → Left → List ℕ → Type 0) → Type 0
SameOnPanel {Answer} {Left} Panel Other = (s t s' t' : List ℕ) (a b : Answer) (left right : Left) → panel_limit ≤ length s → scratch_limit ≤ length t
    → Panel s a left s' → Other t b right t' → (a ≡ b) × (left ≡ right)

-- ---- the checks of each call

-- all that a panel's call checks, other than mending: 1,024 words of scratch, and then what the other call checks
abbrev pub panel_checks : List ℕ → List ℕ → List Check → List ℕ → List Check
panel_checks net sheet besides scratch = call_checks panel_limit scratch ((net_checks net ++ sheet_checks (petri_net net) sheet) ++ besides)

-- all that the panel's mending checks, which has an order of its own (§7.62); room for both results comes last
abbrev pub panel_mend_checks : List ℕ → List ℕ → Type 0 → List ℕ → List Check
panel_mend_checks net sheet Room scratch = call_checks panel_limit scratch ((net_checks net ++ mend_checks (petri_net net) sheet) ++ (once Room SmallOutput ∷ []))

-- ---- what is accepted

-- some call of the panel's check answered 0
pub record PanelAccepted (net sheet : List ℕ) : Type 0 where
  pub scratch : List ℕ
  pub scratch' : List ℕ
  pub answer : CheckAnswer
  pub done : PanelCheckDone net sheet scratch answer scratch'
  pub zero : number (plain_check answer) ≡ 0

-- ---- all of it

pub record PanelDemand : Type 0 where
  -- the same reply, walker and output buffers as from the larger scratch, whatever is handed in and whatever the buffers held
  pub check : (net sheet : List ℕ) → SameOnPanel {Left = Unit} (λ s a left s'. PanelCheckDone net sheet s a s') (λ s a left s'. CheckDone net sheet s a s')
  pub place_bounds : (net sheet out : List ℕ) → SameOnPanel (PanelBoundsDone net sheet out) (BoundsDone net sheet out)
  pub fire : (net sheet : List ℕ) (w : Walker) (t : ℕ)
      → SameOnPanel (λ s a next s'. PanelFireDone net sheet s w t a next s') (λ s a next s'. FireDone net sheet s w t a next s')
  pub run : (net sheet firings out : List ℕ) → SameOnPanel (PanelRunDone net sheet firings out) (RunDone net sheet firings out)
  pub minimal-form : (net sheet out : List ℕ) → SameOnPanel (PanelFormDone net sheet out) (FormDone net sheet out)
  pub replay : (net sheet log taken put : List ℕ)
      → SameOnPanel {Left = List ℕ × List ℕ} (λ s a left s'. PanelReplayDone net sheet log taken put s a left.0 left.1 s')
      (λ s a left s'. ReplayDone net sheet log taken put s a left.0 left.1 s')
  pub mend : (net sheet out list : List ℕ)
      → SameOnPanel {Left = List ℕ × List ℕ} (λ s a left s'. PanelMendDone net sheet out list s a left.0 left.1 s')
      (λ s a left s'. MendDone net sheet out list s a left.0 left.1 s')
  -- each does what every call does (§13.1), with 1,024 in place of 8,192: fewer words are refused by 21, and so many words are cleared
  pub every_check : (net sheet : List ℕ) → EveryCall {Left = Unit} panel_limit plain_check (panel_checks net sheet []) tt (λ s a left s'. PanelCheckDone net sheet s a s')
  pub every_bounds : (net sheet out : List ℕ)
      → EveryCall panel_limit plain_verdict (panel_checks net sheet (once ((petri_net net).places ≤ length out) SmallOutput ∷ [])) out (PanelBoundsDone net sheet out)
  pub every_fire : (net sheet : List ℕ) (w : Walker) (t : ℕ)
      → EveryCall panel_limit plain_fire (panel_checks net sheet (walker_checks (petri_net net) sheet w t)) w (λ s a next s'. PanelFireDone net sheet s w t a next s')
  pub every_run : (net sheet firings out : List ℕ)
      → EveryCall panel_limit plain_run (panel_checks net sheet (run_checks (petri_net net) sheet firings ++ (once ((petri_net net).places ≤ length out) SmallOutput ∷ []))) out
      (PanelRunDone net sheet firings out)
  pub every_form : (net sheet : List ℕ) → (needed : ℕ)
      × ((out : List ℕ) → EveryCall panel_limit plain_form (panel_checks net sheet (once (needed ≤ length out) SmallOutput ∷ [])) out (PanelFormDone net sheet out))
  pub every_replay : (net sheet log taken put : List ℕ)
      → EveryCall {Left = List ℕ × List ℕ} panel_limit plain_replay
      (panel_checks net sheet (replay_checks (petri_net net) sheet log ++ (once (((petri_net net).places ≤ length taken) × ((petri_net net).places ≤ length put)) SmallOutput ∷ [])))
      (taken, put) (λ s a left s'. PanelReplayDone net sheet log taken put s a left.0 left.1 s')
  pub every_mend : (net sheet : List ℕ) → (for_sheet : ℕ) × (for_list : ℕ)
      × ((out list : List ℕ) → EveryCall {Left = List ℕ × List ℕ} panel_limit plain_mend (panel_mend_checks net sheet ((for_sheet ≤ length out) × (for_list ≤ length list)))
      (out, list) (λ s a left s'. PanelMendDone net sheet out list s a left.0 left.1 s'))
  -- what the panel accepts is what the other check accepts, so that demand 3, which holds of forms made under any limit, is said of the panel's too: §11.9
  pub accepted : (net sheet : List ℕ) → PanelAccepted net sheet ↔ Accepted net sheet
