-- What is promised of trimming (§13.18), for anything that meets its postcondition. proofs/Trim has a term for the record.
use Rattle.refusal.specs.declared.Reason.TheVariants.{SmallOutput, SmallScratch}
use Rattle.std.specs.Prelude.{ℕ, ◌≤◌, ◌≡◌, ◌↔◌, List, [], ◌∷◌, ◌++◌, length, take, drop, get_or}
use Rattle.scan.specs.Scan.{tabulate}
use Rattle.automaton.specs.Automaton.{SameLists}
use Rattle.automaton.specs.Reach.{Reachable}
use Rattle.refusal.specs.Limits.{scratch_limit}
use Rattle.refusal.specs.Checks.{Check, once}
use Rattle.net.specs.Checks.{net_checks, IsNet}
use Rattle.sequential.specs.Petri.{petri_net}
use Rattle.sequential.specs.Words.{node_count}
use Rattle.sequential.specs.Checks.{word_checks, WordsPass}
use Rattle.judge.specs.Answer.{plain_check, CheckAnswer}
use Rattle.schedule.specs.Calls.{CheckDone}
use Rattle.lending.specs.Demands.{number, own, EveryCall}
use Rattle.trimmed.specs.Trim.{Trimming, ListsReached}
use Rattle.sequential.specs.OnReached.{HoldsOnReached, HoldsOnAll}
use Rattle.trimmed.specs.Call.{plain_trim, TrimDone, TrimAnswer}
use Rattle.demands.specs.Terms.{said, Accepted}
use Rattle.demands.specs.Replay.{LeftAlike}

-- a call that answered 0, whatever the buffers lent held before
pub record TrimCall (net sheet : List ℕ) : Type 0 where
  pub out : List ℕ
  pub list : List ℕ
  pub scratch : List ℕ
  pub answer : TrimAnswer
  pub out' : List ℕ
  pub list' : List ℕ
  pub scratch' : List ℕ
  pub done : TrimDone net sheet out list scratch answer out' list' scratch'
  pub zero : number (plain_trim answer) ≡ 0

-- the two lengths that the call answered (§10.35), and that many words of each buffer: the trimmed schedule, and the list of old numbers
abbrev pub trimmed_size : {net sheet : List ℕ} → TrimCall net sheet → ℕ
trimmed_size c = own (plain_trim c.answer) 0

abbrev pub kept_size : {net sheet : List ℕ} → TrimCall net sheet → ℕ
kept_size c = own (plain_trim c.answer) 1

abbrev pub trimmed_by : {net sheet : List ℕ} → TrimCall net sheet → List ℕ
trimmed_by c = take (trimmed_size c) c.out'

abbrev pub kept_by : {net sheet : List ℕ} → TrimCall net sheet → List ℕ
kept_by c = take (kept_size c) c.list'

-- all that is checked, in the order of §7.64; room for both results comes last
abbrev pub all_trim_checks : List ℕ → List ℕ → Type 0 → List ℕ → List Check
all_trim_checks net sheet Room scratch = once (scratch_limit ≤ length scratch) SmallScratch ∷ ((net_checks net ++ word_checks (petri_net net) sheet) ++ (once Room SmallOutput ∷ []))

-- it does what every call does (§13.1), by its checks; the words that it needs of each buffer are as many as the length that it answers
pub record EveryTrimming (net sheet : List ℕ) : Type 0 where
  pub for_sheet : ℕ
  pub for_list : ℕ
  pub every : (out list : List ℕ) → EveryCall {Left = List ℕ × List ℕ} scratch_limit plain_trim (all_trim_checks net sheet ((for_sheet ≤ length out) × (for_list ≤ length list)))
      (out, list) (λ s a left s'. TrimDone net sheet out list s a left.0 left.1 s')
  pub answered : (c : TrimCall net sheet) → (trimmed_size c ≡ for_sheet) × (kept_size c ≡ for_list)

-- the result is the given graph cut down to the reached nodes; the list gives their old numbers; and no other words that pass 6 to 9 describe that graph (§11.6)
pub record CutDown (net sheet trimmed list : List ℕ) : Type 0 where
  pub new : ℕ → ℕ
  pub trimming : Trimming (said net sheet) (said net trimmed) new
  pub back : (n : ℕ) → Reachable (said net sheet) n → get_or list (new n) 0 ≡ n
  pub size : length list ≡ node_count trimmed
  pub only : (other : List ℕ) (f : ℕ → ℕ) → WordsPass (petri_net net) other → Trimming (said net sheet) (said net other) f → other ≡ trimmed

-- 0, 1, .., n - 1
abbrev pub up_to : ℕ → List ℕ
up_to n = tabulate (λ i. i) n

pub record TrimDemand : Type 0 where
  pub every : (net sheet : List ℕ) → EveryTrimming net sheet
  -- nothing depends on what the buffers and scratch held: §13.5
  pub unread : (net sheet o₁ o₂ l₁ l₂ s₁ s₂ o₁' o₂' l₁' l₂' s₁' s₂' : List ℕ) (a₁ a₂ : TrimAnswer) → length o₁ ≡ length o₂ → length l₁ ≡ length l₂ → length s₁ ≡ length s₂
      → TrimDone net sheet o₁ l₁ s₁ a₁ o₁' l₁' s₁' → TrimDone net sheet o₂ l₂ s₂ a₂ o₂' l₂' s₂'
      → (a₁ ≡ a₂) × LeftAlike o₁ o₂ o₁' o₂' × LeftAlike l₁ l₂ l₁' l₂'
  -- a result is no longer than what is given; with that much room the answer is 0 exactly if 1 to 9 and 26 pass
  pub exact : (net sheet out list s out' list' s' : List ℕ) (a : TrimAnswer) → TrimDone net sheet out list s a out' list' s'
      → scratch_limit ≤ length s → length sheet ≤ length out → node_count sheet ≤ length list → (number (plain_trim a) ≡ 0) ↔ (IsNet net × WordsPass (petri_net net) sheet)
  -- what is written: §10.36, §10.37
  pub cut : (net sheet : List ℕ) (c : TrimCall net sheet) → CutDown net sheet (trimmed_by c) (kept_by c)
  pub lists : (net sheet : List ℕ) (c : TrimCall net sheet) → ListsReached (said net sheet) (kept_by c)
  -- the same lists are allowed as before
  pub same_lists : (net sheet : List ℕ) (c : TrimCall net sheet) → SameLists (said net (trimmed_by c)) (said net sheet) 0 0
  -- the result is accepted exactly if every clause but reachability holds on the kept nodes; so it is if the given schedule breaks no clause but 16
  pub accepted : (net sheet : List ℕ) (c : TrimCall net sheet) → Accepted net (trimmed_by c) ↔ HoldsOnReached (petri_net net) (said net sheet)
  pub by_16_alone : (net sheet : List ℕ) (c : TrimCall net sheet) → HoldsOnAll (petri_net net) (said net sheet) → Accepted net (trimmed_by c)
  -- the result is never refused by 16
  pub never_16 : (net sheet : List ℕ) (c : TrimCall net sheet) (s s' : List ℕ) (a : CheckAnswer) → CheckDone net (trimmed_by c) s a s' → number (plain_check a) ≡ 16 → ⊥
  -- both results lie whole in the buffers, and the words behind them are as they were: §9.4
  pub within : (net sheet : List ℕ) (c : TrimCall net sheet)
      → (c.out' ≡ trimmed_by c ++ drop (trimmed_size c) c.out) × (c.list' ≡ kept_by c ++ drop (kept_size c) c.list)
      × (trimmed_size c ≤ length c.out) × (kept_size c ≤ length c.list)
  -- an accepted schedule comes back word for word, with the list 0, 1, .., V - 1; the same holds of a trimmed one
  pub itself : (net sheet : List ℕ) → Accepted net sheet → (c : TrimCall net sheet) → (trimmed_by c ≡ sheet) × (kept_by c ≡ up_to (node_count sheet))
  pub twice : (net sheet : List ℕ) (c : TrimCall net sheet) (d : TrimCall net (trimmed_by c)) → (trimmed_by d ≡ trimmed_by c) × (kept_by d ≡ up_to (node_count (trimmed_by c)))
