-- The calls over bytes: what each makes of its bytes, and its postcondition.
use Rattle.refusal.specs.Refusal.{refusal_number}
use Rattle.std.specs.Prelude.{ℕ, ◌+◌, ◌≡◌, List, [], length, Err, Ok}
use Rattle.graph.specs.Rows.{marking_row}
use Rattle.judge.specs.Answer.{plain_check, CheckAnswer}
use Rattle.lending.specs.Call.{Core, scratch_at_return}
use Rattle.schedule.specs.Walker.{walker}
use Rattle.schedule.specs.Calls.{check_core, run_core, fire_core}
use Rattle.schedule.specs.Plain.{plain_run, RunAnswer, FireAnswer}
use Rattle.schedule.specs.declared.Walker.{Walker}
use Rattle.minimal.specs.Form.{form_core, plain_form, FormAnswer}
use Rattle.octets.specs.Words.{all_words}
use Rattle.firmware.specs.Bytes.{scratch_bytes, broken_fault, over_bytes, bytes_answer, BytesDone}

-- ---- the schedule check: §15.5

abbrev pub check_bytes : List ℕ → List ℕ → Core CheckAnswer
check_bytes net sheet = over_bytes (broken_fault (length net) (length sheet) 0) (check_core (all_words net) (all_words sheet))

abbrev pub BytesChecked : List ℕ → List ℕ → List ℕ → List ℕ → ℕ → List ℕ → List ℕ → Type 0
BytesChecked net sheet scratch reply r scratch' reply' = BytesDone (check_bytes net sheet) plain_check [] scratch reply r [] scratch' reply'

-- ---- the run: §15.5

abbrev pub run_bytes : List ℕ → List ℕ → List ℕ → Core RunAnswer
run_bytes net sheet firings = over_bytes (broken_fault (length net) (length sheet) (length firings)) (run_core (all_words net) (all_words sheet) (all_words firings))

abbrev pub BytesRan : List ℕ → List ℕ → List ℕ → List ℕ → List ℕ → List ℕ → ℕ → List ℕ → List ℕ → List ℕ → Type 0
BytesRan net sheet firings out scratch reply r out' scratch' reply' = BytesDone (run_bytes net sheet firings) plain_run out scratch reply r out' scratch' reply'

-- ---- the minimal form: §15.5

abbrev pub form_bytes : List ℕ → List ℕ → Core FormAnswer
form_bytes net sheet = over_bytes (broken_fault (length net) (length sheet) 0) (form_core (all_words net) (all_words sheet))

abbrev pub BytesFormed : List ℕ → List ℕ → List ℕ → List ℕ → List ℕ → ℕ → List ℕ → List ℕ → List ℕ → Type 0
BytesFormed net sheet out scratch reply r out' scratch' reply' = BytesDone (form_bytes net sheet) plain_form out scratch reply r out' scratch' reply'

-- ---- the single firing: §15.6

-- a walker at a node, with the node's own counts
abbrev pub own_walker : List ℕ → List ℕ → ℕ → Walker
own_walker net sheet n = walker n (marking_row net sheet n)

abbrev pub own_core : List ℕ → List ℕ → ℕ → ℕ → Core (FireAnswer × Walker)
own_core net sheet n t = fire_core net sheet (own_walker net sheet n) t

abbrev pub fire_bytes : List ℕ → List ℕ → ℕ → ℕ → Core (FireAnswer × Walker)
fire_bytes net sheet n t = over_bytes (broken_fault (length net) (length sheet) 0) (own_core (all_words net) (all_words sheet) n t)

-- the next node, or 2,147,483,648 plus the refusal's number
abbrev pub one_number : FireAnswer × Walker → ℕ
one_number (Ok e, w) = w.node
one_number (Err r, w) = 2147483648 + refusal_number r

pub record BytesFired (net sheet : List ℕ) (n t : ℕ) (scratch : List ℕ) (r : ℕ) (scratch' : List ℕ) : Type 0 where
  pub returned : r ≡ one_number (bytes_answer (fire_bytes net sheet n t) [] (length scratch))
  pub scratch_after : scratch' ≡ scratch_at_return scratch_bytes scratch
