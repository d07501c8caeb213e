-- What is promised of every call, as statements: what it answers, what it leaves, and what it does not depend on. proofs/Demands has the terms.
use Rattle.refusal.specs.declared.Reason.TheVariants.{SmallScratch}
use Rattle.std.specs.Prelude.{ℕ, ◌+◌, ◌≤◌, ◌<◌, ◌≡◌, ◌↔◌, List, [], ◌∷◌, ◌++◌, length, get_or, take, drop, replicate}
use Rattle.refusal.specs.Refusal.{plain_refusal}
use Rattle.refusal.specs.Checks.{Check, once, AllPass, FirstFails}
use Rattle.refusal.specs.declared.Refusal.{Refusal}
use Rattle.lending.specs.Call.{Core, CallDone, buffer}

-- ---- an answer as plain numbers: §8.1

-- the number of the answer, and the i-th of the call's own numbers, which follow number, kind and position; for one that can be missing see §8.4
abbrev pub number : List ℕ → ℕ
number plain = get_or plain 0 0

abbrev pub own : List ℕ → ℕ → ℕ
own plain i = get_or plain (3 + i) 0

-- all that a call checks: scratch first (§7.54), then the rest, which are its words and, last, whether the result fits
abbrev pub call_checks : ℕ → List ℕ → List Check → List Check
call_checks limit scratch rest = once (limit ≤ length scratch) SmallScratch ∷ rest

-- an answer: its number is 0 exactly if all checks pass; else it names the first check that fails (§7.54), and the numbers of the call's own are 0 (§8.3)
pub record ByChecks (checks : List Check) (plain : List ℕ) : Type 0 where
  pub zero : (number plain ≡ 0) ↔ AllPass checks
  -- 0 goes with the kind that counts nothing and the index 0: §7.51
  pub nothing : number plain ≡ 0 → take 3 plain ≡ 0 ∷ 0 ∷ 0 ∷ []
  pub named : (number plain ≡ 0 → ⊥) → (r : Refusal) × FirstFails checks r × (plain ≡ plain_refusal r)
  pub this : (r : Refusal) → FirstFails checks r → plain ≡ plain_refusal r

-- ---- what a call leaves

-- scratch that is too small is as it was (§9.2); all other scratch is zero up to the limit, and as it was from there on (§9.3)
pub record ScratchLeft (limit number : ℕ) (scratch scratch' : List ℕ) : Type 0 where
  pub small : (number ≡ 21) ↔ (length scratch < limit)
  pub kept : number ≡ 21 → scratch' ≡ scratch
  pub cleared : (number ≡ 21 → ⊥) → scratch' ≡ replicate limit 0 ++ drop limit scratch

-- A call is given by its limit of scratch; its answer as plain numbers; its checks, for given scratch; the state before the call of what it
-- may change; and its postcondition, on the scratch before, the answer, what it may change and the scratch after.
module _ {Answer Left : Type 0} (limit : ℕ) (plain : Answer → List ℕ) (checks : List ℕ → List Check) (before : Left) (Done : List ℕ → Answer → Left → List ℕ → Type 0) where
  -- what demand 1 asks of it: §13.1
  pub record EveryCall : Type 0 where
    -- there is a reply, whatever is lent
    pub replies : (s : List ℕ) → (a : Answer) × (left : Left) × (s' : List ℕ) × Done s a left s'
    -- there is only one reply, whatever earlier calls left in scratch
    pub one : (s t s' t' : List ℕ) (a b : Answer) (left right : Left) → length s ≡ length t → Done s a left s' → Done t b right t' → (a ≡ b) × (left ≡ right)
    -- it answers by its checks
    pub by_numbers : (s s' : List ℕ) (a : Answer) (left : Left) → Done s a left s' → ByChecks (checks s) (plain a)
    -- a refusal changes nothing but scratch: §9.5
    pub keeps : (s s' : List ℕ) (a : Answer) (left : Left) → Done s a left s' → (number (plain a) ≡ 0 → ⊥) → left ≡ before
    -- what is left in scratch: §9.2, §9.3
    pub scratch : (s s' : List ℕ) (a : Answer) (left : Left) → Done s a left s' → ScratchLeft limit (number (plain a)) s s'

-- A function that borrows no scratch is given by its answer as plain numbers; its checks; the state before of what it may change; and its
-- postcondition, on the answer and on what it may change.
module _ {Answer Left : Type 0} (plain : Answer → List ℕ) (checks : List Check) (before : Left) (Done : Answer → Left → Type 0) where
  -- what `EveryCall` asks of a call, scratch apart
  pub record EveryReading : Type 0 where
    -- there is a reply, and only one
    pub replies : (a : Answer) × (left : Left) × Done a left
    pub one : (a b : Answer) (left right : Left) → Done a left → Done b right → (a ≡ b) × (left ≡ right)
    -- it answers by its checks
    pub by_numbers : (a : Answer) (left : Left) → Done a left → ByChecks checks (plain a)
    -- a refusal changes nothing: §9.5
    pub keeps : (a : Answer) (left : Left) → Done a left → (number (plain a) ≡ 0 → ⊥) → left ≡ before

-- ---- what a call does not depend on

-- both buffers have at least `needed` words, or neither has, for example since they are equally long
abbrev pub Alike : ℕ → List ℕ → List ℕ → Type 0
Alike needed a b = (needed ≤ length a) ↔ (needed ≤ length b)

module _ {Answer : Type 0} (core : Core Answer) where
  -- neither the answer nor a written word depends on what scratch and the output buffers held
  abbrev pub BuffersUnread : ℕ → (Answer → List ℕ) → Type 0
  BuffersUnread limit plain = (outs₁ outs₂ outs₁' outs₂' : List (List ℕ)) (s₁ s₂ s₁' s₂' : List ℕ) (a₁ a₂ : Answer)
      → Alike limit s₁ s₂ → ((i : ℕ) → Alike (length (buffer core.results i)) (buffer outs₁ i) (buffer outs₂ i))
      → CallDone limit core outs₁ s₁ a₁ outs₁' s₁' → CallDone limit core outs₂ s₂ a₂ outs₂' s₂'
      → (a₁ ≡ a₂)
      × (number (plain a₁) ≡ 0 → (i : ℕ) → take (length (buffer core.results i)) (buffer outs₁' i) ≡ take (length (buffer core.results i)) (buffer outs₂' i))

  -- nor does either depend on the limit of scratch: two calls with different limits, each with enough scratch, give the same answer and the same output
  abbrev pub SameFromAnyLimit : ℕ → ℕ → Type 0
  SameFromAnyLimit limit₁ limit₂ = (outs outs₁' outs₂' : List (List ℕ)) (s₁ s₂ s₁' s₂' : List ℕ) (a₁ a₂ : Answer) → limit₁ ≤ length s₁ → limit₂ ≤ length s₂
      → CallDone limit₁ core outs s₁ a₁ outs₁' s₁' → CallDone limit₂ core outs s₂ a₂ outs₂' s₂' → (a₁ ≡ a₂) × (outs₁' ≡ outs₂')
