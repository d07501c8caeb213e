-- Demand 1 (§13.1): every call replies, whatever it is handed and whatever was called before; it answers or refuses by the numbers, and a refusal changes
-- nothing but scratch. The proof of each function shows that it ends, and no call has a `requires`. proofs/Demand1 has a term for this record.
use Rattle.refusal.specs.declared.Reason.TheVariants.{SmallOutput}
use Rattle.std.specs.Prelude.{ℕ, ◌≤◌, ◌≡◌, ◌⊎◌, List, [], ◌∷◌, ◌++◌, length, get_or, replicate}
use Rattle.refusal.specs.Refusal.{plain_verdict, Verdict}
use Rattle.refusal.specs.Checks.{once}
use Rattle.net.specs.Checks.{net_checks}
use Rattle.net.specs.Check.{NetDone}
use Rattle.sequential.specs.Petri.{petri_net}
use Rattle.judge.specs.Answer.{plain_check}
use Rattle.lending.specs.Demands.{number, ByChecks, EveryCall}
use Rattle.schedule.specs.Walker.{walker_checks, run_checks}
use Rattle.refusal.specs.Limits.{scratch_limit, most_places}
use Rattle.schedule.specs.Calls.{CheckDone, BoundsDone, FreshDone, FireDone, RunDone}
use Rattle.schedule.specs.Plain.{plain_fire, plain_run}
use Rattle.schedule.specs.declared.Walker.{Walker}
use Rattle.minimal.specs.Form.{plain_form, FormDone}
use Rattle.demands.specs.Terms.{all_checks}

-- nothing depends on what an output buffer and scratch held: two answers are equal, and each word of the buffer is afterwards the same in both or as it was in both (§13.5)
abbrev pub Unread : {Answer : Type 0} → (List ℕ → List ℕ → Answer → List ℕ → List ℕ → Type 0) → Type 0
Unread {Answer} Done = (o₁ o₂ s₁ s₂ o₁' o₂' s₁' s₂' : List ℕ) (a₁ a₂ : Answer) → length o₁ ≡ length o₂ → length s₁ ≡ length s₂
    → Done o₁ s₁ a₁ o₁' s₁' → Done o₂ s₂ a₂ o₂' s₂'
    → (a₁ ≡ a₂) × ((i : ℕ) → (get_or o₁' i 0 ≡ get_or o₂' i 0) ⊎ ((get_or o₁' i 0 ≡ get_or o₁ i 0) × (get_or o₂' i 0 ≡ get_or o₂ i 0)))

pub record Demand1 : Type 0 where
  -- ---- each call on its own: §10.1, §10.3 to §10.9
  pub net_check : (net : List ℕ) (v : Verdict) → NetDone net v → ByChecks (net_checks net) (plain_verdict v)
  pub fresh-walker : (net : List ℕ) (v : Verdict) (w : Walker) → FreshDone net v w
      → ByChecks (net_checks net) (plain_verdict v) × ((number (plain_verdict v) ≡ 0 → ⊥) → w ≡ record { node = 0; counts = replicate most_places 0 })
  pub check : (net sheet : List ℕ) → EveryCall {Left = Unit} scratch_limit plain_check (all_checks net sheet []) tt (λ s a left s'. CheckDone net sheet s a s')
  pub place_bounds : (net sheet out : List ℕ)
      → EveryCall scratch_limit plain_verdict (all_checks net sheet (once ((petri_net net).places ≤ length out) SmallOutput ∷ [])) out (BoundsDone net sheet out)
  pub fire : (net sheet : List ℕ) (w : Walker) (t : ℕ)
      → EveryCall scratch_limit plain_fire (all_checks net sheet (walker_checks (petri_net net) sheet w t)) w (λ s a next s'. FireDone net sheet s w t a next s')
  pub run : (net sheet firings out : List ℕ)
      → EveryCall scratch_limit plain_run (all_checks net sheet (run_checks (petri_net net) sheet firings ++ (once ((petri_net net).places ≤ length out) SmallOutput ∷ []))) out
      (RunDone net sheet firings out)
  -- demand 3 says how many words the minimal form needs (§11.7)
  pub minimal-form : (net sheet : List ℕ) → (needed : ℕ)
      × ((out : List ℕ) → EveryCall scratch_limit plain_form (all_checks net sheet (once (needed ≤ length out) SmallOutput ∷ [])) out (FormDone net sheet out))
  -- ---- and none depends on what the buffers held
  pub bounds_unread : (net sheet : List ℕ) → Unread (BoundsDone net sheet)
  pub run_unread : (net sheet firings : List ℕ) → Unread (RunDone net sheet firings)
  pub form_unread : (net sheet : List ℕ) → Unread (FormDone net sheet)
