-- What is promised of the comparison of two schedules (§13.20): demand 3 for one call, and for anything that meets its postcondition. proofs/Compare has a term
-- for the record. Its two forms are also shown to be those that the call of the minimal form writes, so that §11.9 holds of both.
use Rattle.refusal.specs.declared.Reason.TheVariants.{SmallOutput}
use Rattle.std.specs.Prelude.{ℕ, ◌+◌, ◌*◌, ◌≤◌, ◌≡◌, ◌↔◌, List, [], ◌∷◌, ◌++◌, length, take, drop}
use Rattle.automaton.specs.Automaton.{SameLists}
use Rattle.refusal.specs.Limits.{scratch_limit, most_entries}
use Rattle.refusal.specs.Checks.{Check, once, AllPass}
use Rattle.net.specs.Checks.{IsNet}
use Rattle.sequential.specs.Petri.{petri_net}
use Rattle.sequential.specs.Checks.{sheet_checks}
use Rattle.lending.specs.Demands.{number, own, EveryCall}
use Rattle.lending.specs.Fault.{sheet_index}
use Rattle.compare.specs.Compare.{plain_compare, CompareAnswer}
use Rattle.compare.specs.Means.{CompareDone}
use Rattle.demands.specs.Terms.{said, all_checks, Accepted}
use Rattle.demands.specs.Demand3.{Merges, AlwaysAccepted, Form, made}
use Rattle.demands.specs.Replay.{LeftAlike}

-- ---- an accepted call

-- a call that answered 0, whatever the buffers lent held before
pub record Comparing (net x y : List ℕ) : Type 0 where
  pub one : List ℕ
  pub two : List ℕ
  pub scratch : List ℕ
  pub answer : CompareAnswer
  pub one' : List ℕ
  pub two' : List ℕ
  pub scratch' : List ℕ
  pub done : CompareDone net x y one two scratch answer one' two' scratch'
  pub zero : number (plain_compare answer) ≡ 0

-- the two lengths that the call answered; the number that says whether the forms are equal; and the forms, which are that many words of each buffer: §10.50
module _ {net x y : List ℕ} (c : Comparing net x y) where
  abbrev pub first_size : ℕ
  first_size = own (plain_compare c.answer) 0

  abbrev pub second_size : ℕ
  second_size = own (plain_compare c.answer) 1

  abbrev pub told_same : ℕ
  told_same = own (plain_compare c.answer) 2

  abbrev pub first_form : List ℕ
  first_form = take first_size c.one'

  abbrev pub second_form : List ℕ
  second_form = take second_size c.two'

-- ---- the checks of the call

-- scratch, the net, all checks of the first schedule, all of the second, and room for both forms: §7.67
abbrev pub all_compare_checks : List ℕ → List ℕ → List ℕ → Type 0 → List ℕ → List Check
all_compare_checks net x y Room = all_checks net x (sheet_checks (petri_net net) y ++ (once Room SmallOutput ∷ []))

-- it does what every call does (§13.1), its last number apart; the words that it needs of each buffer are as many as the length that it answers
pub record EveryComparison (net x y : List ℕ) : Type 0 where
  pub for_first : ℕ
  pub for_second : ℕ
  pub every : (one two : List ℕ) → EveryCall {Left = List ℕ × List ℕ} scratch_limit plain_compare (all_compare_checks net x y ((for_first ≤ length one) × (for_second ≤ length two)))
      (one, two) (λ s a left s'. CompareDone net x y one two s a left.0 left.1 s')
  pub answered : (c : Comparing net x y) → (first_size c ≡ for_first) × (second_size c ≡ for_second)

-- its last number: 1 if the first schedule is refused, 2 if the second is, and no check before them fails; 0 for every other answer
pub record ToldIndex (net x y scratch : List ℕ) (told : ℕ) : Type 0 where
  pub first : (told ≡ 1) ↔ ((scratch_limit ≤ length scratch) × IsNet net × (AllPass (sheet_checks (petri_net net) x) → ⊥))
  pub second : (told ≡ 2) ↔ ((scratch_limit ≤ length scratch) × IsNet net × AllPass (sheet_checks (petri_net net) x) × (AllPass (sheet_checks (petri_net net) y) → ⊥))
  pub no_other : told ≤ 2

-- ---- all of it

-- `form` lies at the front of a buffer, whose other words are as they were. It is accepted, allows the lists that `sheet` allows, and is the form that merging and
-- numbering give; and every call of the minimal form writes it
pub record FormOfSheet (net sheet out form out' : List ℕ) : Type 0 where
  pub original : Accepted net sheet
  pub within : (length form ≤ length out) × (out' ≡ form ++ drop (length form) out)
  pub accepted : AlwaysAccepted net form
  pub same_lists : SameLists (said net form) (said net sheet) 0 0
  pub the_form : (other : List ℕ) → (other ≡ form) ↔ Merges net sheet other
  pub as_form : (f : Form net sheet) → made f ≡ form

pub record CompareDemand : Type 0 where
  pub every : (net x y : List ℕ) → EveryComparison net x y
  pub index : (net x y one two s one' two' s' : List ℕ) (a : CompareAnswer) → CompareDone net x y one two s a one' two' s' → ToldIndex net x y s (sheet_index a)
  -- nothing depends on what the buffers and scratch held: §13.5
  pub unread : (net x y o₁ o₂ t₁ t₂ s₁ s₂ o₁' o₂' t₁' t₂' s₁' s₂' : List ℕ) (a₁ a₂ : CompareAnswer) → length o₁ ≡ length o₂ → length t₁ ≡ length t₂ → length s₁ ≡ length s₂
      → CompareDone net x y o₁ t₁ s₁ a₁ o₁' t₁' s₁' → CompareDone net x y o₂ t₂ s₂ a₂ o₂' t₂' s₂'
      → (a₁ ≡ a₂) × LeftAlike o₁ o₂ o₁' o₂' × LeftAlike t₁ t₂ t₁' t₂'
  -- demand 3: the number is 1 exactly if every list is allowed from both roots or from neither, and exactly if the words are the same; else it is 0
  pub same : (net x y : List ℕ) (c : Comparing net x y) → (told_same c ≡ 1) ↔ SameLists (said net x) (said net y) 0 0
  pub words : (net x y : List ℕ) (c : Comparing net x y) → (told_same c ≡ 1) ↔ (first_form c ≡ second_form c)
  pub one_or_none : (net x y : List ℕ) (c : Comparing net x y) → told_same c ≤ 1
  pub first : (net x y : List ℕ) (c : Comparing net x y) → FormOfSheet net x c.one (first_form c) c.one'
  pub second : (net x y : List ℕ) (c : Comparing net x y) → FormOfSheet net y c.two (second_form c) c.two'
  -- two accepted schedules can be compared: 2 + 2 × 4,096 words for each form are enough (§11.7)
  pub there_is : (net x y one two scratch : List ℕ) → Accepted net x → Accepted net y → scratch_limit ≤ length scratch
      → 2 + 2 * most_entries ≤ length one → 2 + 2 * most_entries ≤ length two → (c : Comparing net x y) × (c.one ≡ one) × (c.two ≡ two) × (c.scratch ≡ scratch)
