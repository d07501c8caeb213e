-- Terms that the three demands share: the graph of a schedule's words, when a schedule is accepted, and all that a call checks.
use Rattle.refusal.specs.declared.Reason.TheVariants.{SmallScratch}
use Rattle.std.specs.Prelude.{ℕ, ◌≤◌, ◌≡◌, List, ◌∷◌, ◌++◌, length}
use Rattle.automaton.specs.Automaton.{Automaton}
use Rattle.refusal.specs.Checks.{Check, once}
use Rattle.net.specs.Checks.{net_checks}
use Rattle.sequential.specs.Petri.{petri_net}
use Rattle.sequential.specs.Words.{graph}
use Rattle.sequential.specs.Checks.{sheet_checks}
use Rattle.judge.specs.Answer.{plain_check, CheckAnswer}
use Rattle.lending.specs.Demands.{number}
use Rattle.refusal.specs.Limits.{scratch_limit}
use Rattle.schedule.specs.Calls.{CheckDone}

-- the graph that a schedule's words describe: §3.5, §3.6
abbrev pub said : List ℕ → List ℕ → Automaton
said net sheet = graph (petri_net net) sheet

-- all that a call checks, in the order of §7.54: scratch, the net, the schedule, and what the call asks besides
abbrev pub all_checks : List ℕ → List ℕ → List Check → List ℕ → List Check
all_checks net sheet besides scratch = once (scratch_limit ≤ length scratch) SmallScratch ∷ ((net_checks net ++ sheet_checks (petri_net net) sheet) ++ besides)

-- some call of the schedule check answered 0: §10.3
pub record Accepted (net sheet : List ℕ) : Type 0 where
  pub scratch : List ℕ
  pub scratch' : List ℕ
  pub answer : CheckAnswer
  pub done : CheckDone net sheet scratch answer scratch'
  pub zero : number (plain_check answer) ≡ 0
