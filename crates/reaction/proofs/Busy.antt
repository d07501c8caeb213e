-- Busy runs are what can be followed along the arcs of the busy nodes.
use Prim.Native.Nat.{ℕ}
use mathlib.Core.Path.{◌≡◌, refl, sym, ap, ◌∙◌}
use mathlib.Core.Bool.{Bool, true, false, cond}
use mathlib.Core.List.{List, [], ◌∷◌, ◌++◌}
use mathlib.Core.Option.{none, some}
use Rattle.scan.proofs.Tests.{by_test}
use Rattle.scan.proofs.First.{none-some}
use Rattle.automaton.specs.Automaton.{Automaton, Closed, follow}
use Rattle.automaton.specs.Reach.{Leads}
use Rattle.automaton.proofs.Automaton.{follow-arc, follow-first}
use Rattle.automaton.proofs.Lead.{arc-leads}
use Rattle.reaction.specs.Busy.{BusyRun, busy_part}

module _ (A : Automaton) (await : ℕ → Bool) where
  -- ---- the arcs

  pub busy-arc : (n t m : ℕ) → await n ≡ false → A.arc n t ≡ some m → (busy_part A await).arc n t ≡ some m
  unfolding busy_part
  busy-arc n t m b a = rw b a

  pub arc-busy : (n t m : ℕ) → (busy_part A await).arc n t ≡ some m → (await n ≡ false) × (A.arc n t ≡ some m)
  unfolding busy_part
  arc-busy n t m e =
      by_test (await n) (λ q. none-some (cond (await n) none (A.arc n t)) m (rw q) e) (λ q. (q, rw q at e))

  no-busy-arc : (n t : ℕ) → A.arc n t ≡ none → (busy_part A await).arc n t ≡ none
  unfolding busy_part
  no-busy-arc n t e = by_test (await n) (λ q. rw q) (λ q. rw q e)

  pub busy-closed : Closed A → Closed (busy_part A await)
  unfolding busy_part
  busy-closed c = record {
    root = c.root;
    lands = λ n t m l e. c.lands n t m l (arc-busy n t m e).1;
    bounded = λ n t l. no-busy-arc n t (c.bounded n t l);
  }

  -- ---- the runs

  follow-all : (σ : List ℕ) (n m : ℕ) → follow (busy_part A await) n σ ≡ some m → follow A n σ ≡ some m
  follow-all [] n m e = unfold follow in (unfold follow in e)
  follow-all (t ∷ σ) n m e =
      let (x, a, f) = follow-first (busy_part A await) n t m σ e in
      follow-arc A n t x σ (arc-busy n t x a).1 ∙ follow-all σ x m f

  fires-busy : (τ : List ℕ) (t : ℕ) (ρ : List ℕ) (n m p : ℕ) → follow (busy_part A await) n (τ ++ (t ∷ ρ)) ≡ some m → follow A n τ ≡ some p → await p ≡ false
  fires-busy [] t ρ n m p e f =
      let (x, a, g) = follow-first (busy_part A await) n t m ρ e in
      let q : n ≡ p = unfold follow in (cc) in
      rw (← q) (arc-busy n t x a).0
  fires-busy (u ∷ τ) t ρ n m p e f =
      let (x, a, g) = follow-first (busy_part A await) n u m (τ ++ (t ∷ ρ)) e in
      fires-busy τ t ρ x m p g (sym (follow-arc A n u x τ (arc-busy n u x a).1) ∙ f)

  pub run_in : (n m : ℕ) (σ : List ℕ) → follow (busy_part A await) n σ ≡ some m → BusyRun A await n σ m
  run_in n m σ e = record { leads = follow-all σ n m e; busy = λ τ t ρ p q f. fires-busy τ t ρ n m p (ap (follow (busy_part A await) n) (sym q) ∙ e) f }

  pub run_out : (σ : List ℕ) (n m : ℕ) → BusyRun A await n σ m → follow (busy_part A await) n σ ≡ some m
  run_out [] n m r = unfold follow in (unfold follow in r.leads)
  run_out (t ∷ σ) n m r =
      let (x, a, f) = follow-first A n t m σ r.leads in
      let b : await n ≡ false = r.busy [] t σ n refl (unfold follow in refl) in
      follow-arc (busy_part A await) n t x σ (busy-arc n t x b a)
      ∙ run_out σ x m (record { leads = f; busy = λ τ u ρ p q g. r.busy (t ∷ τ) u ρ p (ap (◌∷◌ t) q) (follow-arc A n t x τ a ∙ g) })

  -- ---- the way to an await node goes by busy nodes until it meets the first

  goal-leads : (n : ℕ) → await n ≡ true → Leads (busy_part A await) await n
  unfolding Leads follow
  goal-leads n w = ([], n, refl, w)

  along : (σ : List ℕ) (n m : ℕ) → follow A n σ ≡ some m → await m ≡ true → Leads (busy_part A await) await n
  along [] n m e w = let q : n ≡ m = unfold follow in (cc) in goal-leads n (rw q w)
  along (t ∷ σ) n m e w =
      let (x, a, f) = follow-first A n t m σ e in
      by_test (await n) (λ q. goal-leads n q)
      (λ q. arc-leads (busy_part A await) await n t x (busy-arc n t x q a) (along σ x m f w))

  pub busy-leads : (n : ℕ) → Leads A await n → Leads (busy_part A await) await n
  unfolding Leads
  busy-leads n (σ, m, e, w) = along σ n m e w
