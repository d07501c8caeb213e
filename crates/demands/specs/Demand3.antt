-- Demand 3, whole (§11.9, §13.4): two accepted schedules of a net, the minimal forms that two calls wrote for them, and all finite lists of firings.
-- proofs/Demand3 has a term for this record.
use Rattle.std.specs.Prelude.{ℕ, ◌+◌, ◌*◌, ◌≤◌, ◌≡◌, ◌↔◌, List, ◌++◌, length, take, drop}
use Rattle.automaton.specs.Automaton.{SameLists}
use Rattle.automaton.specs.Quotient.{Quotient}
use Rattle.automaton.specs.BreadthFirst.{BreadthFirst}
use Rattle.judge.specs.Answer.{plain_check, CheckAnswer}
use Rattle.lending.specs.Demands.{number, own}
use Rattle.refusal.specs.Limits.{most_entries}
use Rattle.schedule.specs.Calls.{CheckWithinDone}
use Rattle.minimal.specs.Form.{plain_form, FormWithinDone, FormAnswer}
use Rattle.demands.specs.Terms.{said, Accepted}

-- `form` is an accepted schedule whose graph is what merging (§11.3) and numbering (§11.5) give
pub record Merges (net sheet form : List ℕ) : Type 0 where
  pub accepted : Accepted net form
  pub merged : (new_number : ℕ → ℕ) × Quotient (said net sheet) (said net form) new_number
  pub numbered : BreadthFirst (said net form)

-- every call of the check that is lent scratch enough answers 0, whatever its limit: §11.8
abbrev pub AlwaysAccepted : List ℕ → List ℕ → Type 0
AlwaysAccepted net sheet = (limit : ℕ) (s s' : List ℕ) (a : CheckAnswer) → limit ≤ length s → CheckWithinDone limit net sheet s a s' → number (plain_check a) ≡ 0

-- a call of the minimal form that answered 0 (§11.7), whatever its limit of scratch, which is less on the small panel (§10.20), and whatever the buffers lent held
pub record Form (net sheet : List ℕ) : Type 0 where
  pub limit : ℕ
  pub out : List ℕ
  pub scratch : List ℕ
  pub answer : FormAnswer
  pub out' : List ℕ
  pub scratch' : List ℕ
  pub done : FormWithinDone limit net sheet out scratch answer out' scratch'
  pub zero : number (plain_form answer) ≡ 0

-- the length that the call answered, and that many words of its buffer: §11.7
abbrev pub size : {net sheet : List ℕ} → Form net sheet → ℕ
size c = own (plain_form c.answer) 0

abbrev pub made : {net sheet : List ℕ} → Form net sheet → List ℕ
made c = take (size c) c.out'

pub record Demand3 : Type 0 where
  -- two are equal, word for word, exactly when every list is allowed from both roots or from neither: §11.8, §11.9
  pub equal : (net x y : List ℕ) → Accepted net x → Accepted net y → (a : Form net x) (b : Form net y) → (made a ≡ made b) ↔ SameLists (said net x) (said net y) 0 0
  -- each form is the one schedule that merging and numbering give: §11.3, §11.5, §11.6
  pub the_form : (net sheet : List ℕ) → Accepted net sheet → (c : Form net sheet) (form : List ℕ) → (form ≡ made c) ↔ Merges net sheet form
  -- it is accepted, and allows the lists that its original allows: §11.9
  pub accepted : (net sheet : List ℕ) → Accepted net sheet → (c : Form net sheet) → AlwaysAccepted net (made c)
  pub same_lists : (net sheet : List ℕ) → Accepted net sheet → (c : Form net sheet) → SameLists (said net (made c)) (said net sheet) 0 0
  -- its words lie whole in the buffer, and the words behind them are as they were: §9.4
  pub within : (net sheet : List ℕ) → Accepted net sheet → (c : Form net sheet) → (size c ≤ length c.out) × (c.out' ≡ made c ++ drop (size c) c.out)
  -- with enough scratch the call answers 0 exactly if the buffer is long enough for the form; 2 + 2 × 4,096 words always are, so there is such a call (§11.7)
  pub answers : (limit : ℕ) (net sheet out scratch out' scratch' : List ℕ) (answer : FormAnswer) → Accepted net sheet → limit ≤ length scratch
      → FormWithinDone limit net sheet out scratch answer out' scratch'
      → (number (plain_form answer) ≡ 0) ↔ ((form : List ℕ) → Merges net sheet form → length form ≤ length out)
  pub enough : (net sheet form : List ℕ) → Accepted net sheet → Merges net sheet form → length form ≤ 2 + 2 * most_entries
  pub there_is : (limit : ℕ) (net sheet out scratch : List ℕ) → Accepted net sheet → limit ≤ length scratch → 2 + 2 * most_entries ≤ length out
      → (c : Form net sheet) × (c.limit ≡ limit) × (c.out ≡ out) × (c.scratch ≡ scratch)
