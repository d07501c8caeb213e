-- What is promised of the public functions that read a schedule and borrow no scratch (§9.1, §13.1): the cores of the calls, and the checks that are no call.
-- proofs/Reading has a term for the record.
use Rattle.refusal.specs.declared.Reason.TheVariants.{SmallOutput}
use Rattle.std.specs.Prelude.{ℕ, ◌≤◌, ◌≡◌, List, [], ◌∷◌, ◌++◌, length, Err, Ok}
use Rattle.refusal.specs.Refusal.{plain_refusal, plain_verdict, Verdict}
use Rattle.refusal.specs.Checks.{Check, once}
use Rattle.net.specs.Checks.{net_checks}
use Rattle.sequential.specs.Petri.{petri_net}
use Rattle.sequential.specs.Only.{only}
use Rattle.sequential.specs.Checks.{word_checks, arc_word_checks, sheet_checks}
use Rattle.sequential.specs.Check.{schedule_reply, task_reply}
use Rattle.graph.specs.Readable.{words_reply, arcs_reply}
use Rattle.judge.specs.Answer.{counts_of, check_answer, plain_check, CheckAnswer}
use Rattle.lending.specs.Demands.{EveryReading}
use Rattle.schedule.specs.Walker.{walker_checks, run_checks}
use Rattle.schedule.specs.Calls.{BoundsWritten, StepDone, RunWritten}
use Rattle.schedule.specs.Plain.{plain_fire, plain_run}
use Rattle.schedule.specs.declared.Walker.{Walker}
use Rattle.replay.specs.Checks.{replay_checks}
use Rattle.replay.specs.Calls.{ReplayWritten}
use Rattle.replay.specs.Plain.{plain_replay}
use Rattle.minimal.specs.Form.{plain_form, FormOf, FormWritten}
use Rattle.minimize.specs.Both.{FormsOf, FormsAnswer}
use Rattle.compare.specs.Compare.{plain_compare, CompareWritten}
use Rattle.mended.specs.Checks.{mend_checks}
use Rattle.mended.specs.Call.{plain_mend, MendWritten}
use Rattle.composed.specs.Sheet.{given_sheets}
use Rattle.composed.specs.Checks.{compose_checks}
use Rattle.composed.specs.Call.{ComposeWritten, plain_compose}
use Rattle.trimmed.specs.Call.{plain_trim, TrimWritten}
use Rattle.reaction.specs.Checks.{reaction_checks}
use Rattle.reaction.specs.Call.{plain_reaction, ReactionWritten}
use Rattle.demands.specs.Reaction.{pair_words}

-- a check that stands alone; it changes nothing
abbrev pub EveryVerdict : List Check → Verdict → Type 0
EveryVerdict checks reply = EveryReading {Left = Unit} plain_verdict checks tt (λ v left. v ≡ reply)

-- the answer for two forms as plain numbers, with both lengths: §8.1
abbrev pub plain_forms : FormsAnswer → List ℕ
plain_forms (Ok l) = 0 ∷ 0 ∷ 0 ∷ l.first ∷ l.second ∷ 0 ∷ []
plain_forms (Err r) = plain_refusal r

-- the checks of the net and of the schedule: only its words, or all of it
abbrev pub read_checks : List ℕ → List ℕ → List Check
read_checks net sheet = net_checks net ++ word_checks (petri_net net) sheet

abbrev pub whole_checks : List ℕ → List ℕ → List Check
whole_checks net sheet = net_checks net ++ sheet_checks (petri_net net) sheet

pub record ReadingDemand : Type 0 where
  -- ---- the checks: `graph::check`, `graph::check_arcs`, `judge::verdict`, `judge::task_verdict`, `judge::check`
  pub words : (net sheet : List ℕ) → EveryVerdict (read_checks net sheet) (words_reply net sheet)
  pub arcs : (net sheet : List ℕ) → EveryVerdict (net_checks net ++ arc_word_checks (petri_net net) sheet) (arcs_reply net sheet)
  pub verdict : (net sheet : List ℕ) → EveryVerdict (whole_checks net sheet) (schedule_reply net sheet)
  pub task : (net : List ℕ) (s : ℕ) (sheet : List ℕ) → EveryVerdict (net_checks net ++ sheet_checks (only (petri_net net) s) sheet) (task_reply net s sheet)
  pub check : (net sheet : List ℕ)
      → EveryReading {Left = Unit} plain_check (whole_checks net sheet) tt (λ (a : CheckAnswer) left. a ≡ check_answer (schedule_reply net sheet) (counts_of net sheet))
  -- ---- the cores of the calls: `bounds_into`, `Walker::step`, `run_into`, `replay_into`, `form_into`, `mend_into`, `compare_into`, `compose_into`, `trim_into`,
  -- `reaction_into`; and `form_of`, `forms_of`, which ask only for readable words
  pub bounds : (net sheet out : List ℕ)
      → EveryReading plain_verdict (whole_checks net sheet ++ (once ((petri_net net).places ≤ length out) SmallOutput ∷ [])) out (BoundsWritten net sheet out)
  pub step : (net sheet : List ℕ) (w : Walker) (t : ℕ)
      → EveryReading plain_fire (whole_checks net sheet ++ walker_checks (petri_net net) sheet w t) w (StepDone net sheet w t)
  pub run : (net sheet firings out : List ℕ)
      → EveryReading plain_run ((whole_checks net sheet ++ run_checks (petri_net net) sheet firings) ++ (once ((petri_net net).places ≤ length out) SmallOutput ∷ [])) out
      (RunWritten net sheet firings out)
  pub replay : (net sheet log taken put : List ℕ)
      → EveryReading {Left = List ℕ × List ℕ} plain_replay
      ((whole_checks net sheet ++ replay_checks (petri_net net) sheet log) ++ (once (((petri_net net).places ≤ length taken) × ((petri_net net).places ≤ length put)) SmallOutput ∷ []))
      (taken, put) (λ a left. ReplayWritten net sheet log taken put a left.0 left.1)
  pub form_of : (net sheet : List ℕ) → (needed : ℕ)
      × ((out : List ℕ) → EveryReading plain_form (read_checks net sheet ++ (once (needed ≤ length out) SmallOutput ∷ [])) out (FormOf net sheet out))
  pub form : (net sheet : List ℕ) → (needed : ℕ)
      × ((out : List ℕ) → EveryReading plain_form (whole_checks net sheet ++ (once (needed ≤ length out) SmallOutput ∷ [])) out (FormWritten net sheet out))
  pub forms : (net x y : List ℕ) → (first : ℕ) × (second : ℕ)
      × ((one two : List ℕ) → EveryReading {Left = List ℕ × List ℕ} plain_forms
      ((read_checks net x ++ word_checks (petri_net net) y) ++ (once ((first ≤ length one) × (second ≤ length two)) SmallOutput ∷ []))
      (one, two) (λ a left. FormsOf net x y one two a left.0 left.1))
  pub mend : (net sheet : List ℕ) → (for_sheet : ℕ) × (for_list : ℕ)
      × ((out list : List ℕ) → EveryReading {Left = List ℕ × List ℕ} plain_mend
      ((net_checks net ++ mend_checks (petri_net net) sheet) ++ (once ((for_sheet ≤ length out) × (for_list ≤ length list)) SmallOutput ∷ []))
      (out, list) (λ a left. MendWritten net sheet out list a left.0 left.1))
  -- for these two calls without the last number, which a refusal can have
  pub compare : (net x y : List ℕ) → (first : ℕ) × (second : ℕ)
      × ((one two : List ℕ) → EveryReading {Left = List ℕ × List ℕ} plain_compare
      ((whole_checks net x ++ sheet_checks (petri_net net) y) ++ (once ((first ≤ length one) × (second ≤ length two)) SmallOutput ∷ []))
      (one, two) (λ a left. CompareWritten net x y one two a left.0 left.1))
  pub compose : (net : List ℕ) (k : ℕ) (a b c d : List ℕ) → (needed : ℕ)
      × ((out : List ℕ) → EveryReading plain_compose ((net_checks net ++ compose_checks (petri_net net) k (given_sheets k a b c d)) ++ (once (needed ≤ length out) SmallOutput ∷ [])) out
      (ComposeWritten net k a b c d out))
  pub trim : (net sheet : List ℕ) → (for_sheet : ℕ) × (for_list : ℕ)
      × ((out list : List ℕ) → EveryReading {Left = List ℕ × List ℕ} plain_trim
      (read_checks net sheet ++ (once ((for_sheet ≤ length out) × (for_list ≤ length list)) SmallOutput ∷ []))
      (out, list) (λ a left. TrimWritten net sheet out list a left.0 left.1))
  pub reaction : (net sheet durations out : List ℕ)
      → EveryReading plain_reaction ((whole_checks net sheet ++ reaction_checks (petri_net net) sheet durations) ++ (once (pair_words net sheet ≤ length out) SmallOutput ∷ [])) out
      (ReactionWritten net sheet durations out)
