-- What is promised of mending (§13.12), for anything that meets its postcondition. proofs/Mend has a term for the record.
use Rattle.refusal.specs.declared.Reason.TheVariants.{SmallOutput, SmallScratch}
use Rattle.std.specs.Prelude.{ℕ, ◌+◌, ◌*◌, ◌≤◌, ◌<◌, ◌≡◌, ◌↔◌, ◌⊎◌, List, [], ◌∷◌, ◌++◌, length, take, drop}
use Rattle.automaton.specs.Automaton.{SameLists}
use Rattle.refusal.specs.Limits.{scratch_limit, most_entries}
use Rattle.refusal.specs.Checks.{Check, once, AllPass}
use Rattle.net.specs.Checks.{net_checks, IsNet}
use Rattle.sequential.specs.Petri.{petri_net}
use Rattle.sequential.specs.Words.{node_count, count_at}
use Rattle.sequential.specs.Checks.{arc_word_checks}
use Rattle.lending.specs.Demands.{number, own, EveryCall}
use Rattle.mended.specs.Arcs.{SameArcs}
use Rattle.mended.specs.Checks.{mend_checks}
use Rattle.mended.specs.Listed.{Listed, ListsChanges}
use Rattle.mended.specs.Call.{plain_mend, MendDone, MendAnswer}
use Rattle.demands.specs.Terms.{said, Accepted}
use Rattle.demands.specs.Demand3.{AlwaysAccepted}
use Rattle.demands.specs.Replay.{LeftAlike}

-- a call that answered 0, whatever the buffers lent held before
pub record Mending (net sheet : List ℕ) : Type 0 where
  pub out : List ℕ
  pub list : List ℕ
  pub scratch : List ℕ
  pub answer : MendAnswer
  pub out' : List ℕ
  pub list' : List ℕ
  pub scratch' : List ℕ
  pub done : MendDone net sheet out list scratch answer out' list' scratch'
  pub zero : number (plain_mend answer) ≡ 0

-- the two lengths that the call answered (§10.14), and that many words of each buffer: the mended schedule and the list of changes
abbrev pub mended_size : {net sheet : List ℕ} → Mending net sheet → ℕ
mended_size c = own (plain_mend c.answer) 0

abbrev pub list_size : {net sheet : List ℕ} → Mending net sheet → ℕ
list_size c = own (plain_mend c.answer) 1

abbrev pub mended_by : {net sheet : List ℕ} → Mending net sheet → List ℕ
mended_by c = take (mended_size c) c.out'

abbrev pub listed_by : {net sheet : List ℕ} → Mending net sheet → List ℕ
listed_by c = take (list_size c) c.list'

-- some counts make an accepted schedule with these arcs
abbrev pub Mendable : List ℕ → List ℕ → Type 0
Mendable net sheet = (other : List ℕ) × Accepted net other × SameArcs (said net sheet) (said net other)

-- all that is checked, in the order of §7.62; room for both results comes last
abbrev pub all_mend_checks : List ℕ → List ℕ → Type 0 → List ℕ → List Check
all_mend_checks net sheet Room scratch = once (scratch_limit ≤ length scratch) SmallScratch ∷ ((net_checks net ++ mend_checks (petri_net net) sheet) ++ (once Room SmallOutput ∷ []))

-- it does what every call does (§13.1), by its checks; the words that it needs of each buffer are as many as the length that it answers
pub record EveryMending (net sheet : List ℕ) : Type 0 where
  pub for_sheet : ℕ
  pub for_list : ℕ
  pub every : (out list : List ℕ) → EveryCall {Left = List ℕ × List ℕ} scratch_limit plain_mend (all_mend_checks net sheet ((for_sheet ≤ length out) × (for_list ≤ length list)))
      (out, list) (λ s a left s'. MendDone net sheet out list s a left.0 left.1 s')
  pub answered : (c : Mending net sheet) → (mended_size c ≡ for_sheet) × (list_size c ≡ for_list)

-- the mended schedule is accepted, has the given arcs and so allows the same lists, and no other accepted schedule has these arcs
pub record Mends (net sheet mended : List ℕ) : Type 0 where
  pub accepted : AlwaysAccepted net mended
  pub same_arcs : SameArcs (said net sheet) (said net mended)
  pub same_lists : SameLists (said net sheet) (said net mended) 0 0
  pub only : (other : List ℕ) → Accepted net other → SameArcs (said net sheet) (said net other) → other ≡ mended

-- the list, applied to the given counts, gives the mended ones: each count is listed with its new value, or it is not listed and stays
abbrev pub Applies : List ℕ → List ℕ → List ℕ → List ℕ → Type 0
Applies net sheet mended list = (n p : ℕ) → n < node_count sheet → p < (petri_net net).places
    → Listed list (n * (petri_net net).places + p) (count_at (petri_net net) mended n p)
    ⊎ (((v : ℕ) → Listed list (n * (petri_net net).places + p) v → ⊥) × (count_at (petri_net net) mended n p ≡ count_at (petri_net net) sheet n p))

pub record MendDemand : Type 0 where
  pub every : (net sheet : List ℕ) → EveryMending net sheet
  -- nothing depends on what the buffers and scratch held: §13.5
  pub unread : (net sheet o₁ o₂ l₁ l₂ s₁ s₂ o₁' o₂' l₁' l₂' s₁' s₂' : List ℕ) (a₁ a₂ : MendAnswer) → length o₁ ≡ length o₂ → length l₁ ≡ length l₂ → length s₁ ≡ length s₂
      → MendDone net sheet o₁ l₁ s₁ a₁ o₁' l₁' s₁' → MendDone net sheet o₂ l₂ s₂ a₂ o₂' l₂' s₂'
      → (a₁ ≡ a₂) × LeftAlike o₁ o₂ o₁' o₂' × LeftAlike l₁ l₂ l₁' l₂'
  -- with enough room, words that pass the net check and 6 to 9 (9 asked of arcs only) are accepted exactly if some counts fit, and refused exactly if none do: §7.25
  pub exact : (net sheet out list s out' list' s' : List ℕ) (a : MendAnswer) → MendDone net sheet out list s a out' list' s'
      → scratch_limit ≤ length s → 2 + 2 * most_entries ≤ length out → 1 + 2 * most_entries ≤ length list → IsNet net → AllPass (arc_word_checks (petri_net net) sheet)
      → ((number (plain_mend a) ≡ 0) ↔ Mendable net sheet) × ((number (plain_mend a) ≡ 0 → ⊥) ↔ (Mendable net sheet → ⊥))
  -- what is written: §10.15, §10.16
  pub mends : (net sheet : List ℕ) (c : Mending net sheet) → Mends net sheet (mended_by c)
  pub lists : (net sheet : List ℕ) (c : Mending net sheet) → ListsChanges (petri_net net) sheet (mended_by c) (listed_by c)
  pub applies : (net sheet : List ℕ) (c : Mending net sheet) → Applies net sheet (mended_by c) (listed_by c)
  -- both results lie whole in the buffers, and the words behind them are as they were: §9.4
  pub within : (net sheet : List ℕ) (c : Mending net sheet)
      → (c.out' ≡ mended_by c ++ drop (mended_size c) c.out) × (c.list' ≡ listed_by c ++ drop (list_size c) c.list)
      × (mended_size c ≤ length c.out) × (list_size c ≤ length c.list)
  -- an accepted schedule comes back word for word, and nothing is listed; the same holds of a mended one
  pub itself : (net sheet : List ℕ) → Accepted net sheet → (c : Mending net sheet) → (mended_by c ≡ sheet) × (listed_by c ≡ 0 ∷ [])
  pub twice : (net sheet : List ℕ) (c : Mending net sheet) (d : Mending net (mended_by c)) → (mended_by d ≡ mended_by c) × (listed_by d ≡ 0 ∷ [])
  -- schedules with the same arcs are mended to the same words
  pub alike : (net x y : List ℕ) → SameArcs (said net x) (said net y) → (c : Mending net x) (d : Mending net y) → mended_by c ≡ mended_by d
